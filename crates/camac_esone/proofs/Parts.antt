-- Lists of cycles, their prefixes and their ends.
use Rattle.std.proofs.Common.{◌≡◌, ◌+◌, ◌≤◌, Bool, true, false, List, [], ◌∷◌, ◌++◌, length, refl, sym, ap, ◌∙◌, subst, arith, Some, None, inl, inr, append_assoc}
use Rattle.std.specs.Prelude.{◌⊎◌}
use Rattle.std.proofs.lemmas.List.{map-append, same_from_push, length-map}
use Rattle.camac_branch.specs.Address.{Address}
use Rattle.camac_esone.specs.Transfers.{tally, when}
use Rattle.camac_esone.specs.Lists.{Cycle, replies, EachCycle}

pub replies-append : (xs ys : List Cycle) → replies (xs ++ ys) ≡ replies xs ++ replies ys
replies-append xs ys = map-append (λ c. c.q) xs ys

pub length-replies : (xs : List Cycle) → length (replies xs) ≡ length xs
length-replies xs = length-map xs (λ c. c.q)

-- a list is empty or has a last element
pub record Ending (xs : List Cycle) : Type 0 where
  pub prefix : List Cycle
  pub last : Cycle
  pub parts : prefix ++ last ∷ [] ≡ xs

pub ending_of : (c : Cycle) (cs : List Cycle) → Ending (c ∷ cs)
ending_of c [] = record { prefix = []; last = c; parts = refl }
ending_of c (d ∷ cs) = let e = ending_of d cs in record { prefix = c ∷ e.prefix; last = e.last; parts = ap (λ l. c ∷ l) e.parts }

pub empty_or_ending : (xs : List Cycle) → (xs ≡ []) ⊎ Ending xs
empty_or_ending [] = inl refl
empty_or_ending (c ∷ cs) = inr (ending_of c cs)

pub each_prefix : (P : List Cycle → Cycle → Type 0) (xs ys : List Cycle) → EachCycle P (xs ++ ys) → EachCycle P xs
each_prefix P xs ys h before after c e = h before (after ++ ys) c (sym (append_assoc before (c ∷ after) ys) ∙ ap (λ l. l ++ ys) e)

-- a place in a list with one element more is the last one or in the list
pub record PlaceIn (before : List Cycle) (c : Cycle) (xs : List Cycle) : Type 0 where
  pub after : List Cycle
  pub parts : before ++ c ∷ after ≡ xs

pub last_or_in : (before after xs : List Cycle) (c d : Cycle) → before ++ c ∷ after ≡ xs ++ d ∷ [] → ((before ≡ xs) × (c ≡ d)) ⊎ PlaceIn before c xs
last_or_in before [] xs c d e = inl (same_from_push before xs c d e)
last_or_in before (a ∷ after) xs c d e =
    let end = ending_of a after in
    let moved : (before ++ c ∷ end.prefix) ++ end.last ∷ [] ≡ xs ++ d ∷ []
    = append_assoc before (c ∷ end.prefix) (end.last ∷ []) ∙ ap (λ l. before ++ c ∷ l) end.parts ∙ e in
    inr (record { after = end.prefix; parts = (same_from_push (before ++ c ∷ end.prefix) xs end.last d moved).0 })

pub each_more : (P : List Cycle → Cycle → Type 0) (xs : List Cycle) (d : Cycle) → EachCycle P xs → P xs d → EachCycle P (xs ++ d ∷ [])
each_more P xs d h k before after c e =
    elim (last_or_in before after xs c d e) [
      | inl same ↦ subst (λ b. P b c) (sym same.0) (subst (P xs) (sym same.1) k)
      | inr place ↦ h before place.after c place.parts
    ]

pub each_none : (P : List Cycle → Cycle → Type 0) → EachCycle P []
each_none P [] after c e = cc
each_none P (b ∷ before) after c e = cc

pub tally-append : (xs ys : List Bool) → tally (xs ++ ys) ≡ tally xs + tally ys
tally-append [] ys = omega arith
tally-append (true ∷ xs) ys = let e = tally-append xs ys in omega arith
tally-append (false ∷ xs) ys = tally-append xs ys

-- one reply more
pub tally_more : (xs : List Bool) (q : Bool) → tally (xs ++ q ∷ []) ≤ tally xs + 1
tally_more xs true = let e = tally-append xs (true ∷ []) in omega arith
tally_more xs false = let e = tally-append xs (false ∷ []) in omega arith

pub tally_none : (xs : List Bool) → tally (xs ++ false ∷ []) ≡ tally xs
tally_none xs = let e = tally-append xs (false ∷ []) in omega arith

-- as many replies at most
pub tally_most : (xs : List Bool) → tally xs ≤ length xs
tally_most [] = omega arith
tally_most (true ∷ xs) = let e = tally_most xs in omega arith
tally_most (false ∷ xs) = let e = tally_most xs in omega arith

-- what is wanted, and when
pub when_true : (b : Bool) (at : Address) → b ≡ true → when b at ≡ Some at
when_true true at e = refl
when_true false at e = cc

pub when_false : (b : Bool) (at : Address) → b ≡ false → when b at ≡ None
when_false true at e = cc
when_false false at e = refl

pub was_true : (b : Bool) (at to : Address) → when b at ≡ Some to → (b ≡ true) × (to ≡ at)
was_true true at to e = (refl, cc)
was_true false at to e = cc

pub was_false : (b : Bool) (at : Address) → when b at ≡ None → b ≡ false
was_false true at e = cc
was_false false at e = refl
