-- A buffer whose front is written step by step.
use Rattle.std.proofs.Common.{◌≡◌, inl, inr, ℕ, Bool, zero, suc, ◌+◌, ◌*◌, ◌/◌, ◌-◌, ◌≤◌, ◌<◌, List, [], ◌∷◌, ◌++◌, length, take, drop, get_or, set, refl, sym, ap, ◌∙◌, arith, append_assoc, append-nil, length-take-le, add-one}
use Rattle.std.proofs.lemmas.Grind.{common_steps, flat_map-append}
use Rattle.std.proofs.lemmas.Bool.{cases_lt}
use Rattle.std.proofs.lemmas.List.{at_drop_more, at_drop_all, take-append-drop, take_all, take_at, take_more, take-append-le, drop_all, drop_at, drop-drop, length-append, length-drop, length-take}
use Rattle.std.proofs.Math.Seq.{take-append_seam, drop-append_seam}
use Rattle.std.specs.Prelude.{min}
use lib.Seq.{take-append-add, drop-append-add}
use Rattle.std.specs.List.{flat_map}
use Rattle.byteorder.specs.Endian.{little_bytes}
use borrow.Rule.Slice.PartMut.{put_mid, mid_of}
use Rattle.camac_branch.specs.Plan.{Layout}
use Rattle.camac_run.specs.Runner.{RunnerState}
use Rattle.camac_run.specs.declared.member.Member.{Member}
use Rattle.camac_run.specs.declared.member.Member.TheVariants.{Makes, Block, Release}
use Rattle.camac_c.specs.Ahead.{block_in, fields_of, locks_behind, member_in, numbers_behind}
use Rattle.camac_c.specs.Filled.{filled_words, over, over_words}

after_one : (i x : ℕ) (xs ys : List ℕ) → i < length xs → i < length ys → x ≡ get_or xs i 0 → set (over i xs ys) i x ≡ over (suc i) xs ys
after_one i x [] ys h k e = absurd (omega (arith, h))
after_one i x xs [] h k e = absurd (omega (arith, k))
after_one zero x (a ∷ xs) (b ∷ ys) h k e = ap (λ n. n ∷ ys) e
after_one (suc i) x (a ∷ xs) (b ∷ ys) h k e = ap (λ l. a ∷ l) (after_one i x xs ys (omega arith) (omega arith) e)

pub over_next : (i x : ℕ) (xs ys : List ℕ) → i < length xs → i < length ys → x ≡ get_or xs i 0 → set (over i xs ys) i x ≡ over (i + 1) xs ys
over_next i x xs ys h k e = rw add-one (after_one i x xs ys h k e)

words_length : (ws : List ℕ) → length (flat_map (little_bytes 4) ws) ≡ 4 * length ws
words_length [] = refl
words_length (w ∷ ws) = let e = words_length ws in grind (arith, common_steps)

-- what is seen from a place on, and what is written there
part_here : (front back : List ℕ) → mid_of (length front) (length (front ++ back) - length front) (front ++ back) ≡ back
part_here front back = grind (arith, common_steps, drop-append_seam)

put_here : (front back new : List ℕ) → put_mid (length front) (length (front ++ back) - length front) (front ++ back) new ≡ front ++ new
put_here front back new = grind (arith, common_steps, take-append_seam, drop-append_seam)

words_more : (i : ℕ) (ws : List ℕ) → i < length ws → flat_map (little_bytes 4) (take (i + 1) ws) ≡ flat_map (little_bytes 4) (take i ws) ++ little_bytes 4 (get_or ws i 0)
words_more i ws h = ap (flat_map (little_bytes 4)) (take_more ws i 0 h) ∙ flat_map-append (little_bytes 4) (take i ws) (get_or ws i 0 ∷ [])

written_here : (front back new : List ℕ) → put_mid (length front) (length (front ++ back) - length front) (front ++ back) (new ++ drop 4 (mid_of (length front) (length (front ++ back) - length front) (front ++ back))) ≡ (front ++ new) ++ drop 4 back
written_here front back new = put_here front back _ ∙ ap (λ (l : List ℕ). front ++ (new ++ drop 4 l)) (part_here front back) ∙ sym (append_assoc front new (drop 4 back))

written : (n : ℕ) (front back bytes buffer new : List ℕ) → n ≡ length front → bytes ≡ front ++ back → buffer ≡ new ++ drop 4 (mid_of n (length bytes - n) bytes) → put_mid n (length bytes - n) bytes buffer ≡ (front ++ new) ++ drop 4 back
written n front back bytes buffer new en eb et = rw (et, eb, en) (written_here front back new)

pub words_next : (i w : ℕ) (ws old bytes buffer : List ℕ) → i < length ws → 4 * i + 4 ≤ length old → w ≡ get_or ws i 0 → bytes ≡ over_words i ws old
    → buffer ≡ little_bytes 4 w ++ drop 4 (mid_of (4 * i) (length bytes - 4 * i) bytes) → put_mid (4 * i) (length bytes - 4 * i) bytes buffer ≡ over_words (i + 1) ws old
words_next i w ws old bytes buffer h k e b t =
    let front = flat_map (little_bytes 4) (take i ws) in
    let n : 4 * i ≡ length front = let l = words_length (take i ws) in grind (arith, common_steps) in
    let more : flat_map (little_bytes 4) (take (i + 1) ws) ≡ front ++ little_bytes 4 w = rw e (words_more i ws h) in
    let rest : drop (4 * (i + 1)) old ≡ drop 4 (drop (4 * i) old) = ap (λ (m : ℕ). drop m old) (omega arith) ∙ sym (drop-drop 4 (4 * i) old) in
    written (4 * i) front (drop (4 * i) old) bytes buffer (little_bytes 4 w) n b t ∙ (λ j. sym more j ++ sym rest j)

-- words from a place on
abbrev pub filled_from : (start : ℕ) → (words bytes : List ℕ) → List ℕ
filled_from start words bytes = take start bytes ++ filled_words words (drop start bytes)

-- words in a buffer: all of them where there is room, else as many as there is room for
pub all_filled : (ws bytes : List ℕ) → 4 * length ws ≤ length bytes → filled_words ws bytes ≡ flat_map (little_bytes 4) ws ++ drop (4 * length ws) bytes
all_filled ws bytes h =
    let n : min (length ws) (length bytes / 4) ≡ length ws = omega arith in
    ap (λ (m : ℕ). over_words m ws bytes) n ∙ ap (λ (l : List ℕ). flat_map (little_bytes 4) l ++ drop (4 * length ws) bytes) (take_all (length ws) ws (omega arith))

pub room_filled : (ws bytes : List ℕ) → length bytes / 4 ≤ length ws → filled_words ws bytes ≡ over_words (length bytes / 4) ws bytes
room_filled ws bytes h =
    let n : min (length ws) (length bytes / 4) ≡ length bytes / 4 = omega arith in
    ap (λ (m : ℕ). over_words m ws bytes) n

none_filled : (ws : List ℕ) → filled_words ws [] ≡ []
none_filled ws =
    let n : min (length ws) 0 ≡ 0 = omega arith in
    ap (λ (m : ℕ). over_words m ws []) n

-- there is no room past the end
past : (start : ℕ) (ws bytes : List ℕ) → length bytes ≤ start → filled_from start ws bytes ≡ bytes
past start ws bytes h =
    let t : take start bytes ≡ bytes = take_all start bytes h in
    let d : drop start bytes ≡ [] = drop_all start bytes h in
    (λ j. t j ++ filled_words ws (d j)) ∙ ap (λ (l : List ℕ). bytes ++ l) (none_filled ws) ∙ append-nil bytes

-- words behind words
then_all : (ws more bytes : List ℕ) → 4 * length ws ≤ length bytes → filled_words (ws ++ more) bytes ≡ flat_map (little_bytes 4) ws ++ filled_words more (drop (4 * length ws) bytes)
then_all ws more bytes h =
    let k = length ws in
    let m = min (length more) (length (drop (4 * k) bytes) / 4) in
    let d : length (drop (4 * k) bytes) ≡ length bytes - 4 * k = length-drop (4 * k) bytes in
    let n : min (length (ws ++ more)) (length bytes / 4) ≡ k + m = omega (arith, length-append ws more) in
    let words : flat_map (little_bytes 4) (take (k + m) (ws ++ more)) ≡ flat_map (little_bytes 4) ws ++ flat_map (little_bytes 4) (take m more)
    = ap (flat_map (little_bytes 4)) (take-append-add ws more m) ∙ flat_map-append (little_bytes 4) ws (take m more) in
    let rest : drop (4 * (k + m)) bytes ≡ drop (4 * m) (drop (4 * k) bytes) = ap (λ (i : ℕ). drop i bytes) (omega arith) ∙ sym (drop-drop (4 * m) (4 * k) bytes) in
    ap (λ (i : ℕ). over_words i (ws ++ more) bytes) n ∙ (λ j. words j ++ rest j) ∙ append_assoc (flat_map (little_bytes 4) ws) (flat_map (little_bytes 4) (take m more)) (drop (4 * m) (drop (4 * k) bytes))

length_filled : (ws bytes : List ℕ) → length bytes < 4 * length ws → length (filled_words ws bytes) ≡ length bytes
length_filled ws bytes h =
    let q = length bytes / 4 in
    let e = room_filled ws bytes (omega arith) in
    let w = words_length (take q ws) in
    let t = length-take q ws in
    let d = length-drop (4 * q) bytes in
    ap length e ∙ length-append (flat_map (little_bytes 4) (take q ws)) (drop (4 * q) bytes) ∙ omega (arith, w, t, d, h)

then_none : (ws more bytes : List ℕ) → length bytes < 4 * length ws → filled_words (ws ++ more) bytes ≡ filled_words ws bytes
then_none ws more bytes h =
    let q = length bytes / 4 in
    let few : q ≤ length (ws ++ more) = omega (arith, length-append ws more) in
    let t : take q (ws ++ more) ≡ take q ws = take-append-le q ws more (omega arith) in
    room_filled (ws ++ more) bytes few ∙ ap (λ (l : List ℕ). flat_map (little_bytes 4) l ++ drop (4 * q) bytes) t ∙ sym (room_filled ws bytes (omega arith))

-- what is written behind words
behind_all : (k : ℕ) (ws more bytes : List ℕ) → k ≡ 4 * length ws → k ≤ length bytes → filled_from k more (filled_words ws bytes) ≡ filled_words (ws ++ more) bytes
behind_all k ws more bytes e h =
    let front = flat_map (little_bytes 4) ws in
    let back = drop (4 * length ws) bytes in
    let n : length front ≡ k = words_length ws ∙ sym e in
    let t : take k (front ++ back) ≡ front = take_at front back k n in
    let d : drop k (front ++ back) ≡ back = drop_at front back k n in
    ap (filled_from k more) (all_filled ws bytes (omega arith)) ∙ (λ j. t j ++ filled_words more (d j)) ∙ sym (then_all ws more bytes (omega arith))

behind_some : (k : ℕ) (ws more bytes : List ℕ) → k ≡ 4 * length ws → length bytes < k → filled_from k more (filled_words ws bytes) ≡ filled_words (ws ++ more) bytes
behind_some k ws more bytes e h =
    let n : length (filled_words ws bytes) ≤ k = omega (arith, length_filled ws bytes (omega arith)) in
    past k more (filled_words ws bytes) n ∙ sym (then_none ws more bytes (omega arith))

behind_words : (k : ℕ) (ws more bytes : List ℕ) → k ≡ 4 * length ws → filled_from k more (filled_words ws bytes) ≡ filled_words (ws ++ more) bytes
behind_words k ws more bytes e = elim (cases_lt (length bytes) k) [ inl h ↦ behind_some k ws more bytes e h | inr h ↦ behind_all k ws more bytes e h ]

behind_inside : (start k : ℕ) (ws more bytes : List ℕ) → k ≡ 4 * length ws → start ≤ length bytes → filled_from (start + k) more (filled_from start ws bytes) ≡ filled_from start (ws ++ more) bytes
behind_inside start k ws more bytes e h =
    let front = take start bytes in
    let back = filled_words ws (drop start bytes) in
    let n : length front ≡ start = length-take-le start bytes h in
    let t : take (start + k) (front ++ back) ≡ front ++ take k back = ap (λ (i : ℕ). take (i + k) (front ++ back)) (sym n) ∙ take-append-add front back k in
    let d : drop (start + k) (front ++ back) ≡ drop k back = ap (λ (i : ℕ). drop (i + k) (front ++ back)) (sym n) ∙ drop-append-add front back k in
    (λ j. t j ++ filled_words more (d j)) ∙ append_assoc front (take k back) (filled_words more (drop k back)) ∙ ap (λ (l : List ℕ). front ++ l) (behind_words k ws more (drop start bytes) e)

behind_outside : (start k : ℕ) (ws more bytes : List ℕ) → length bytes < start → filled_from (start + k) more (filled_from start ws bytes) ≡ filled_from start (ws ++ more) bytes
behind_outside start k ws more bytes h =
    let same = past start ws bytes (omega arith) in
    ap (filled_from (start + k) more) same ∙ past (start + k) more bytes (omega arith) ∙ sym (past start (ws ++ more) bytes (omega arith))

-- words that are written behind words are one text
pub behind : (start n : ℕ) (ws more bytes : List ℕ) → n ≡ start + 4 * length ws → filled_from n more (filled_from start ws bytes) ≡ filled_from start (ws ++ more) bytes
behind start n ws more bytes e =
    let k = 4 * length ws in
    ap (λ (i : ℕ). filled_from i more (filled_from start ws bytes)) e
    ∙ elim (cases_lt (length bytes) start) [ inl h ↦ behind_outside start k ws more bytes h | inr h ↦ behind_inside start k ws more bytes refl h ]

pub behind_none : (start : ℕ) (bytes : List ℕ) → filled_from start [] bytes ≡ bytes
behind_none start bytes =
    let n : min 0 (length (drop start bytes) / 4) ≡ 0 = omega arith in
    ap (λ (m : ℕ). take start bytes ++ over_words m [] (drop start bytes)) n ∙ take-append-drop start bytes

-- ---- members of a list

block_length : (m : Member) → length (block_in m) ≡ 5
block_length (Makes o size) = refl
block_length (Block t) = refl
block_length (Release c) = refl

member_length : (plan : Layout) (h : RunnerState) (locks : List Bool) (m : Member) → length (fields_of (member_in plan h locks m) ++ block_in m) ≡ 15
member_length plan h locks m = omega (arith, length-append (fields_of (member_in plan h locks m)) (block_in m), block_length m)

pub numbers_length : (plan : Layout) (h : RunnerState) (ms : List Member) (locks : List Bool) → length (numbers_behind plan h locks ms) ≡ 15 * length ms
numbers_length plan h [] locks = refl
numbers_length plan h (m ∷ ms) locks =
    let its = fields_of (member_in plan h locks m) ++ block_in m in
    length-append its (numbers_behind plan h (locks_behind m locks) ms) ∙ omega (arith, member_length plan h locks m, numbers_length plan h ms (locks_behind m locks))

-- a member is written behind those before it
pub member_more : (plan : Layout) (h : RunnerState) (i : ℕ) (locks after : List Bool) (ms : List Member) (m d : Member) (bytes new all : List ℕ) → i < length ms → get_or ms i d ≡ m
    → filled_from (60 * i) (numbers_behind plan h locks (drop i ms)) bytes ≡ all
    → new ≡ filled_from (60 * i) (fields_of (member_in plan h locks m) ++ block_in m) bytes
    → after ≡ locks_behind m locks
    → filled_from (60 * (i + 1)) (numbers_behind plan h after (drop (i + 1) ms)) new ≡ all
member_more plan h i locks after ms m d bytes new all less is e stored locked =
    let its = fields_of (member_in plan h locks m) ++ block_in m in
    let others = numbers_behind plan h (locks_behind m locks) (drop (i + 1) ms) in
    let here : its ++ others ≡ numbers_behind plan h locks (drop i ms) = sym (at_drop_more (numbers_behind plan h locks) ms i d less ∙ ap (λ (o : Member). numbers_behind plan h locks (o ∷ drop (i + 1) ms)) is) in
    (λ j. filled_from (60 * (i + 1)) (numbers_behind plan h (locked j) (drop (i + 1) ms)) (stored j))
    ∙ behind (60 * i) (60 * (i + 1)) its others bytes (omega (arith, member_length plan h locks m)) ∙ ap (λ (l : List ℕ). filled_from (60 * i) l bytes) here ∙ e

-- and behind the last nothing is
pub members_all : (plan : Layout) (h : RunnerState) (i : ℕ) (locks : List Bool) (ms : List Member) (bytes all : List ℕ) → length ms ≤ i
    → filled_from (60 * i) (numbers_behind plan h locks (drop i ms)) bytes ≡ all → bytes ≡ all
members_all plan h i locks ms bytes all done e =
    let none : numbers_behind plan h locks (drop i ms) ≡ [] = at_drop_all (numbers_behind plan h locks) ms i done in
    sym (behind_none (60 * i) bytes) ∙ sym (ap (λ (l : List ℕ). filled_from (60 * i) l bytes) none) ∙ e
