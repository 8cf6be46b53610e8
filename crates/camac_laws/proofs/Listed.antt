-- The lines of the commands of a type are the runs of neighbours that are alike.
use Rattle.std.proofs.Common.{◌≡◌, ◌≢◌, ℕ, ◌+◌, ◌-◌, ◌<◌, ◌≤◌, zero, suc, Bool, true, false, List, [], ◌∷◌, ◌++◌, Option, Some, None, refl, sym, ap, ap₂, subst, ◌∙◌, inl, inr, append_assoc, append-nil, arith}
use Rattle.std.specs.Prelude.{◌&&◌, nat_eq, nat_lt, if◌then◌else◌}
use Rattle.std.specs.List.{flat_map}
use Rattle.std.proofs.lemmas.Bool.{and_parts, and_from, eqb-true, eqb-false, ltb-true, ltb-false, false≢true}
use Rattle.camac_module.specs.Kind.{same_kind}
use Rattle.camac_module.specs.declared.kind.CommandKind.{CommandKind}
use Rattle.camac_module.specs.declared.kind.CommandKind.TheVariants.{Plain, Clearing, Probe}
use Rattle.camac_module.specs.Entry.{Entry}
use Rattle.camac_module.specs.Commands.{Commands, entry}
use Rattle.camac_lines.specs.Commands.{is_same, last_same, goes_on, command_line, text_at, command_text, function_text}
use Rattle.camac_lines.specs.Texts.{texts}
use Rattle.camac_lines.proofs.Neighbours.{same_from, same_next, same_stops, same_ends}
use Rattle.camac_laws.specs.Listed.{CommandLine, line_text, IsDeclared, AreDeclared, IsBehind, AreBehind, AreInOrder, OneTells, CommandsAreListed}

-- ---- the same command

kind_is : (p q : CommandKind) → same_kind p q ≡ true → p ≡ q
kind_is Plain Plain e = refl
kind_is Plain Clearing e = absurd (cc)
kind_is Plain Probe e = absurd (cc)
kind_is Clearing Plain e = absurd (cc)
kind_is Clearing Clearing e = refl
kind_is Clearing Probe e = absurd (cc)
kind_is Probe Plain e = absurd (cc)
kind_is Probe Clearing e = absurd (cc)
kind_is Probe Probe e = refl

itself : (p : CommandKind) → same_kind p p ≡ true
itself Plain = refl
itself Clearing = refl
itself Probe = refl

same_is : (e : Entry) (o : Option Entry) → is_same e o ≡ true → o ≡ Some e
same_is e None h = absurd (false≢true h)
same_is e (Some d) h =
    let p = and_parts (nat_eq d.width e.width) (same_kind d.kind e.kind) h in
    let width : d.width ≡ e.width = eqb-true d.width e.width p.0 in
    let kind : d.kind ≡ e.kind = kind_is d.kind e.kind p.1 in
    ap₂ (λ w k. Some (record { width = w; kind = k })) width kind

nat_same : (n : ℕ) → nat_eq n n ≡ true
nat_same n = grind (arith)

is_itself : (e : Entry) → is_same e (Some e) ≡ true
is_itself e = and_from (nat_eq e.width e.width) (same_kind e.kind e.kind) (nat_same e.width) (itself e.kind)

module _ (commands : Commands) (f : ℕ) where
  abbrev at : ℕ → Option Entry
  at a = entry commands f a

  -- how many go on as this one, from a sub-address on
  abbrev run : Entry → ℕ → ℕ
  run e a = same_from commands f e a

  by_next : (e : Entry) (a : ℕ) (P : ℕ → Type 0) → a < 16 → (at a ≡ Some e → P (1 + run e (a + 1))) → ((at a ≡ Some e → ⊥) → P 0) → P (run e a)
  by_next e a P below more stops = go (is_same e (at a)) refl
    where
      go : (b : Bool) → is_same e (at a) ≡ b → P (run e a)
      go true h = subst P (sym (same_next commands f e a below h)) (more (same_is e (at a) h))
      go false h = subst P (sym (same_stops commands f e a below h)) (stops (λ is. false≢true (sym h ∙ (ap (is_same e) is ∙ is_itself e))))

  -- all of them are the same, they stay below the end, and the next one is not
  run_all : (n : ℕ) (e : Entry) (a : ℕ) → n + a ≡ 16 → (k : ℕ) → k < run e a → at (a + k) ≡ Some e
  run_all zero e a is k less = let none = same_ends commands f e a (omega arith) in absurd (omega arith)
  run_all (suc n) e a is k less =
      by_next e a (λ m. k < m → at (a + k) ≡ Some e) (omega arith)
      (λ here below. first_or k here (λ j l. run_all n e (a + 1) (omega arith) j l) below)
      (λ no below. absurd (omega arith)) less
    where
      first_or : (k : ℕ) → at a ≡ Some e → ((j : ℕ) → j < run e (a + 1) → at ((a + 1) + j) ≡ Some e) → k < 1 + run e (a + 1) → at (a + k) ≡ Some e
      first_or zero here rest l = let same : a ≡ a + zero = omega arith in subst (λ b. at b ≡ Some e) same here
      first_or (suc j) here rest l = let same : (a + 1) + j ≡ a + suc j = omega arith in subst (λ b. at b ≡ Some e) same (rest j (omega arith))

  run_below : (n : ℕ) (e : Entry) (a : ℕ) → n + a ≡ 16 → run e a ≤ n
  run_below zero e a is = let none = same_ends commands f e a (omega arith) in omega arith
  run_below (suc n) e a is = by_next e a (λ m. m ≤ suc n) (omega arith) (λ here. let more = run_below n e (a + 1) (omega arith) in omega arith) (λ no. omega arith)

  run_end : (n : ℕ) (e : Entry) (a : ℕ) → n + a ≡ 16 → a + run e a < 16 → at (a + run e a) ≢ Some e
  run_end zero e a is below = absurd (omega arith)
  run_end (suc n) e a is below =
      by_next e a (λ m. a + m < 16 → at (a + m) ≢ Some e) (omega arith)
      (λ here l. let same : (a + 1) + run e (a + 1) ≡ a + (1 + run e (a + 1)) = omega arith in subst (λ b. at b ≢ Some e) same (run_end n e (a + 1) (omega arith) (omega arith)))
      (λ no l. let same : a ≡ a + 0 = omega arith in subst (λ b. at b ≢ Some e) same no) below

  -- ---- the lines of a function

  abbrev spot : ℕ → Entry → CommandLine
  spot a e = record { function = f; first = a; last = last_same commands f a e; entry = e }

  abbrev line_if : Bool → ℕ → Entry → List CommandLine
  line_if true a e = []
  line_if false a e = spot a e ∷ []

  abbrev spot_of : ℕ → Option Entry → List CommandLine
  spot_of a None = []
  spot_of a (Some e) = line_if (goes_on commands f a e) a e

  abbrev lines_from : (first count : ℕ) → List CommandLine
  lines_from a zero = []
  lines_from a (suc n) = spot_of a (at a) ++ lines_from (a + 1) n

  abbrev texts_of : List CommandLine → List ℕ
  texts_of ls = flat_map line_text ls

  flat_both : (xs ys : List CommandLine) → texts_of (xs ++ ys) ≡ texts_of xs ++ texts_of ys
  flat_both [] ys = refl
  flat_both (x ∷ xs) ys = ap (λ l. line_text x ++ l) (flat_both xs ys) ∙ sym (append_assoc (line_text x) (texts_of xs) (texts_of ys))

  text_here : (a : ℕ) (o : Option Entry) → text_at commands f a o ≡ texts_of (spot_of a o)
  text_here a None = refl
  text_here a (Some e) = go (goes_on commands f a e)
    where
      go : (b : Bool) → (if b then [] else command_line f a (last_same commands f a e) e) ≡ texts_of (line_if b a e)
      go true = refl
      go false = sym (append-nil (command_line f a (last_same commands f a e) e))

  pub text_is : (a n : ℕ) → texts (command_text commands f) a n ≡ texts_of (lines_from a n)
  unfolding texts
  text_is a zero = refl
  text_is a (suc n) = ap₂ (λ x y. x ++ y) (text_here a (at a)) (text_is (a + 1) n) ∙ sym (flat_both (spot_of a (at a)) (lines_from (a + 1) n))

  -- ---- where a line begins

  -- the neighbour before is not the same
  pub record Begins (a : ℕ) (e : Entry) : Type 0 where
    pub here : at a ≡ Some e
    pub before : (b : ℕ) → a ≡ b + 1 → at b ≢ Some e

  begins_or_not : (a : ℕ) (e : Entry) → at a ≡ Some e → (goes_on commands f a e ≡ false → Begins a e) × (goes_on commands f a e ≡ true → (b : ℕ) × (a ≡ b + 1) × (at b ≡ Some e))
  begins_or_not zero e here = (λ h. record { here = here; before = λ b is. absurd (omega arith) }, λ h. absurd (false≢true h))
  begins_or_not (suc j) e here = (
    λ h. record {
      here = here;
      before = λ b is same. (let one : j ≡ b = omega arith in absurd (false≢true (sym h ∙ (ap (λ c. is_same e (at c)) one ∙ (ap (is_same e) same ∙ is_itself e)))));
    },
    λ h. (j, omega arith, same_is e (at j) h),
  )

  -- the command of a sub-address, and of all that go on as it does
  all_here : (a : ℕ) (e : Entry) → a < 16 → at a ≡ Some e → (c : ℕ) → a ≤ c → c ≤ a + run e (a + 1) → at c ≡ Some e
  all_here a e below here c low high = go (c - a) (omega arith)
    where
      go : (k : ℕ) → c ≡ a + k → at c ≡ Some e
      go zero is = let same : a ≡ c = omega arith in subst (λ x. at x ≡ Some e) same here
      go (suc k) is = let same : (a + 1) + k ≡ c = omega arith in subst (λ x. at x ≡ Some e) same (run_all (16 - (a + 1)) e (a + 1) (omega arith) k (omega arith))

  pub declared : (a : ℕ) (e : Entry) → f < 32 → a < 16 → Begins a e → IsDeclared commands (spot a e)
  declared a e few below b =
      let n : ℕ = 16 - (a + 1) in
      let most = run_below n e (a + 1) (omega arith) in
      record {
        function = few;
        some = omega arith;
        last = omega arith;
        each = λ c low high. all_here a e below b.here c low high;
        before = b.before;
        after = λ l. let same : (a + 1) + run e (a + 1) ≡ (a + run e (a + 1)) + 1 = omega arith in subst (λ c. at c ≢ Some e) same (run_end n e (a + 1) (omega arith) (omega arith));
      }

  -- further lines are behind this one
  behind_here : (a : ℕ) (e : Entry) → a < 16 → Begins a e → (b : ℕ) (d : Entry) → a < b → Begins b d → IsBehind (spot a e) (spot b d)
  behind_here a e below begins b d less later = inr (refl, go (nat_lt (a + run e (a + 1)) b) refl)
    where
      go : (t : Bool) → nat_lt (a + run e (a + 1)) b ≡ t → a + run e (a + 1) < b
      go true h = ltb-true (a + run e (a + 1)) b h
      go false h =
          let within : b ≤ a + run e (a + 1) = ltb-false (a + run e (a + 1)) b h in
          let same : at b ≡ Some e = all_here a e below begins.here b (omega arith) within in
          let is : Some d ≡ Some e = sym later.here ∙ same in
          let one : d ≡ e = cc in
          absurd (later.before (b - 1) (omega arith) (subst (λ x. at (b - 1) ≡ Some x) (sym one) (all_here a e below begins.here (b - 1) (omega arith) (omega arith))))

  -- ---- all lines of the function

  abbrev LineHolds : (CommandLine → Type 0) → List CommandLine → Type 0
  LineHolds P [] = Unit {0}
  LineHolds P (l ∷ ls) = P l × LineHolds P ls

  holds_both : (P : CommandLine → Type 0) (xs ys : List CommandLine) → LineHolds P xs → LineHolds P ys → LineHolds P (xs ++ ys)
  holds_both P [] ys h g = g
  holds_both P (x ∷ xs) ys h g = (h.0, holds_both P xs ys h.1 g)

  -- what holds of each line that begins somewhere from here on
  from_here : (P : CommandLine → Type 0) (a n : ℕ) → a + n ≤ 16 → ((b : ℕ) (e : Entry) → a ≤ b → b < 16 → Begins b e → P (spot b e)) → LineHolds P (lines_from a n)
  from_here P a zero le h = tt
  from_here P a (suc n) le h = holds_both P (spot_of a (at a)) (lines_from (a + 1) n) (here (at a) refl) (from_here P (a + 1) n (omega arith) (λ b e low high g. h b e (omega arith) high g))
    where
      here : (o : Option Entry) → at a ≡ o → LineHolds P (spot_of a o)
      here None is = tt
      here (Some e) is = go (goes_on commands f a e) refl
        where
          go : (t : Bool) → goes_on commands f a e ≡ t → LineHolds P (line_if t a e)
          go true t = tt
          go false t = (h a e (omega arith) (omega arith) ((begins_or_not a e is).0 t), tt)

  pub in_order : (a n : ℕ) → a + n ≤ 16 → AreInOrder (lines_from a n)
  in_order a zero le = tt
  in_order a (suc n) le = here (in_order (a + 1) n (omega arith)) (at a) refl
    where
      behind : (l : CommandLine) (ms : List CommandLine) → LineHolds (IsBehind l) ms → AreBehind l ms
      behind l [] h = tt
      behind l (m ∷ ms) h = (h.0, behind l ms h.1)

      here : AreInOrder (lines_from (a + 1) n) → (o : Option Entry) → at a ≡ o → AreInOrder (spot_of a o ++ lines_from (a + 1) n)
      here others None is = others
      here others (Some e) is = go (goes_on commands f a e) refl
        where
          go : (t : Bool) → goes_on commands f a e ≡ t → AreInOrder (line_if t a e ++ lines_from (a + 1) n)
          go true t = others
          go false t =
              let begins = (begins_or_not a e is).0 t in
              (behind (spot a e) (lines_from (a + 1) n) (from_here (IsBehind (spot a e)) (a + 1) n (omega arith) (λ b d low high later. behind_here a e (omega arith) begins b d (omega arith) later)), others)

  -- where the line of a command begins
  record BeginsAt (a : ℕ) (e : Entry) : Type 0 where
    first : ℕ
    is_first : Begins first e
    low : first ≤ a
    high : a ≤ first + run e (first + 1)

  begins_at : (a : ℕ) (e : Entry) → a < 16 → at a ≡ Some e → BeginsAt a e
  begins_at zero e below here = record { first = 0; is_first = (begins_or_not 0 e here).0 refl; low = omega arith; high = omega arith }
  begins_at (suc j) e below here = go (λ is. begins_at j e (omega arith) is) (goes_on commands f (suc j) e) refl
    where
      go : (at j ≡ Some e → BeginsAt j e) → (t : Bool) → goes_on commands f (suc j) e ≡ t → BeginsAt (suc j) e
      go prior false t = record { first = suc j; is_first = (begins_or_not (suc j) e here).0 t; low = omega arith; high = omega arith }
      go prior true t =
          let b = prior (same_is e (at j) t) in
          let low' = b.low in
          let high' = b.high in
          record { first = b.first; is_first = b.is_first; low = omega arith; high = further b (nat_lt j (b.first + run e (b.first + 1))) refl }
        where
          further : (b : BeginsAt j e) (t : Bool) → nat_lt j (b.first + run e (b.first + 1)) ≡ t → suc j ≤ b.first + run e (b.first + 1)
          further b true h = let less = ltb-true j (b.first + run e (b.first + 1)) h in omega arith
          further b false h =
              let more : b.first + run e (b.first + 1) ≤ j = ltb-false j (b.first + run e (b.first + 1)) h in
              let low' = b.low in
              let high' = b.high in
              let next_is : (b.first + 1) + run e (b.first + 1) ≡ suc j = omega arith in
              let end = run_end (16 - (b.first + 1)) e (b.first + 1) (omega arith) (omega arith) in
              absurd (end (subst (λ c. at c ≡ Some e) (sym next_is) here))

  one_there : (xs ys : List CommandLine) (g a : ℕ) → OneTells ys g a → OneTells (xs ++ ys) g a
  one_there [] ys g a h = h
  one_there (x ∷ xs) ys g a h = inr (one_there xs ys g a h)

  one_first : (xs ys : List CommandLine) (g a : ℕ) → OneTells xs g a → OneTells (xs ++ ys) g a
  one_first [] ys g a h = absurd h
  one_first (x ∷ xs) ys g a (inl h) = inl h
  one_first (x ∷ xs) ys g a (inr h) = inr (one_first xs ys g a h)

  in_lines : (a n b c : ℕ) (e : Entry) → a ≤ b → b < a + n → Begins b e → b ≤ c → c ≤ b + run e (b + 1) → OneTells (lines_from a n) f c
  in_lines a zero b c e low high begins l h = absurd (omega arith)
  in_lines a (suc n) b c e low high begins l h = go (λ lower higher. in_lines (a + 1) n b c e lower higher begins l h) (nat_eq a b) refl
    where
      here : (o : Option Entry) → o ≡ Some e → goes_on commands f b e ≡ false → OneTells (spot_of b o) f c
      here None is t = absurd (cc)
      here (Some d) is t =
          let same : d ≡ e = cc in
          subst (λ x. OneTells (spot_of b (Some x)) f c) (sym same) (subst (λ s. OneTells (line_if s b e) f c) (sym t) (inl (refl, l, h)))

      starts : goes_on commands f b e ≡ false
      starts = when (goes_on commands f b e) refl
        where
          when : (t : Bool) → goes_on commands f b e ≡ t → goes_on commands f b e ≡ false
          when false t = t
          when true t = let prior = (begins_or_not b e begins.here).1 t in absurd (begins.before prior.0 prior.1 prior.2)

      go : (a + 1 ≤ b → b < (a + 1) + n → OneTells (lines_from (a + 1) n) f c) → (t : Bool) → nat_eq a b ≡ t → OneTells (spot_of a (at a) ++ lines_from (a + 1) n) f c
      go others true t =
          let same : a ≡ b = eqb-true a b t in
          subst (λ x. OneTells (spot_of x (at x) ++ lines_from (a + 1) n) f c) (sym same) (one_first (spot_of b (at b)) (lines_from (a + 1) n) f c (here (at b) begins.here starts))
      go others false t =
          let other : a ≢ b = eqb-false a b t in
          one_there (spot_of a (at a)) (lines_from (a + 1) n) f c (others (omega arith) (omega arith))

  pub one_tells : (a : ℕ) (e : Entry) → a < 16 → at a ≡ Some e → OneTells (lines_from 0 16) f a
  one_tells a e below here =
      let b = begins_at a e below here in
      let low' = b.low in
      in_lines 0 16 b.first a e (omega arith) (omega arith) b.is_first b.low b.high

-- ---- all functions

module _ (commands : Commands) where
  abbrev lines : (first count : ℕ) → List CommandLine
  lines f zero = []
  lines f (suc n) = lines_from commands f 0 16 ++ lines (f + 1) n

  all_text : (f n : ℕ) → texts (function_text commands) f n ≡ flat_map line_text (lines f n)
  unfolding texts
  all_text f zero = refl
  all_text f (suc n) = ap₂ (λ x y. x ++ y) (text_is commands f 0 16) (all_text (f + 1) n) ∙ sym (flat_both commands f (lines_from commands f 0 16) (lines (f + 1) n))

  declared_both : (xs ys : List CommandLine) → AreDeclared commands xs → AreDeclared commands ys → AreDeclared commands (xs ++ ys)
  declared_both [] ys h g = g
  declared_both (x ∷ xs) ys h g = (h.0, declared_both xs ys h.1 g)

  of_lines : (f : ℕ) (ls : List CommandLine) → LineHolds commands f (IsDeclared commands) ls → AreDeclared commands ls
  of_lines f [] h = tt
  of_lines f (l ∷ ls) h = (h.0, of_lines f ls h.1)

  all_declared : (f n : ℕ) → f + n ≤ 32 → AreDeclared commands (lines f n)
  all_declared f zero le = tt
  all_declared f (suc n) le =
      declared_both (lines_from commands f 0 16) (lines (f + 1) n)
      (of_lines f (lines_from commands f 0 16) (from_here commands f (IsDeclared commands) 0 16 (omega arith) (λ b e low high begins. declared commands f b e (omega arith) high begins)))
      (all_declared (f + 1) n (omega arith))

  -- of greater functions
  abbrev Beyond : ℕ → List CommandLine → Type 0
  Beyond f [] = Unit {0}
  Beyond f (l ∷ ls) = (f < l.function) × Beyond f ls

  beyond_both : (f : ℕ) (xs ys : List CommandLine) → Beyond f xs → Beyond f ys → Beyond f (xs ++ ys)
  beyond_both f [] ys h g = g
  beyond_both f (x ∷ xs) ys h g = (h.0, beyond_both f xs ys h.1 g)

  of_function : (f g : ℕ) → g < f → (ls : List CommandLine) → LineHolds commands f (λ l. l.function ≡ f) ls → Beyond g ls
  of_function f g less [] h = tt
  of_function f g less (l ∷ ls) h = let is : l.function ≡ f = h.0 in (omega arith, of_function f g less ls h.1)

  lines_of : (f : ℕ) → LineHolds commands f (λ l. l.function ≡ f) (lines_from commands f 0 16)
  lines_of f = from_here commands f (λ l. l.function ≡ f) 0 16 (omega arith) (λ b e low high begins. refl)

  all_beyond : (g f n : ℕ) → g < f → Beyond g (lines f n)
  all_beyond g f zero less = tt
  all_beyond g f (suc n) less = beyond_both g (lines_from commands f 0 16) (lines (f + 1) n) (of_function f g less (lines_from commands f 0 16) (lines_of f)) (all_beyond g (f + 1) n (omega arith))

  order_both : (f : ℕ) (xs ys : List CommandLine) → LineHolds commands f (λ l. l.function ≡ f) xs → AreInOrder xs → Beyond f ys → AreInOrder ys → AreInOrder (xs ++ ys)
  order_both f [] ys of h beyond g = g
  order_both f (x ∷ xs) ys of h beyond g = (behind xs h.0, order_both f xs ys of.1 h.1 beyond g)
    where
      after : (zs : List CommandLine) → Beyond f zs → AreBehind x zs
      after [] b = tt
      after (z ∷ zs) b = let is : x.function ≡ f = of.0 in let less : f < z.function = b.0 in (inl (omega arith), after zs b.1)

      behind : (zs : List CommandLine) → AreBehind x zs → AreBehind x (zs ++ ys)
      behind [] b = after ys beyond
      behind (z ∷ zs) b = (b.0, behind zs b.1)

  all_order : (f n : ℕ) → AreInOrder (lines f n)
  all_order f zero = tt
  all_order f (suc n) =
      order_both f (lines_from commands f 0 16) (lines (f + 1) n) (lines_of f) (in_order commands f 0 16 (omega arith)) (all_beyond f (f + 1) n (omega arith)) (all_order (f + 1) n)

  all_told : (f n g a : ℕ) (e : Entry) → f ≤ g → g < f + n → a < 16 → entry commands g a ≡ Some e → OneTells (lines f n) g a
  all_told f zero g a e low high below is = absurd (omega arith)
  all_told f (suc n) g a e low high below is = go (λ lower higher. all_told (f + 1) n g a e lower higher below is) (nat_eq f g) refl
    where
      go : (f + 1 ≤ g → g < (f + 1) + n → OneTells (lines (f + 1) n) g a) → (t : Bool) → nat_eq f g ≡ t → OneTells (lines_from commands f 0 16 ++ lines (f + 1) n) g a
      go others true t =
          let same : f ≡ g = eqb-true f g t in
          subst (λ x. OneTells (lines_from commands x 0 16 ++ lines (f + 1) n) g a) (sym same) (one_first commands g (lines_from commands g 0 16) (lines (f + 1) n) g a (one_tells commands g a e below is))
      go others false t =
          let other : f ≢ g = eqb-false f g t in
          one_there commands f (lines_from commands f 0 16) (lines (f + 1) n) g a (others (omega arith) (omega arith))

pub commands_are_listed : CommandsAreListed
commands_are_listed commands =
    (lines commands 0 32, all_text commands 0 32, all_declared commands 0 32 (omega arith), all_order commands 0 32, λ f a e few below is. all_told commands 0 32 f a e (omega arith) (omega arith) below is)
