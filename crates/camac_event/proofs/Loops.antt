-- Words and records, read and written one after the other.
use Rattle.std.proofs.Common.{◌≡◌, ℕ, suc, ◌-◌, ◌+◌, ◌≤◌, ◌<◌, List, [], ◌∷◌, ◌++◌, Result, Ok, Err, refl, sym, ap, ◌∙◌, append_assoc, append-nil, arith, length, length-append, zero, get_or, slice_get, take, All, Bor, Option, None, Some, IfSome, subst, add-zero, length-take}
use Rattle.std.proofs.KnownBytes.{Appends-trans}
use Rattle.std.proofs.lemmas.Option.{slice_get_read}
use Rattle.std.proofs.lemmas.List.{take_more, map_push, length-map}
use Rattle.std.proofs.lemmas.List.Elements.{All-from_recursion}
use Rattle.std.specs.List.{AllByRecursion}
use Rattle.std.specs.Slice.{IsItemAt}
use Rattle.std.specs.Io.KnownBytes.{Appends}
use Rattle.camac_event.specs.Reading.{Flaw, ◌>>=◌, word_at, words_at, record_at, records_at}
use Rattle.camac_event.specs.declared.event.Version.{Version}
use Rattle.camac_event.specs.Spelling.{Entry, record_of, entry_of, entries_of, records_from, IsEvent}
use Rattle.camac_event.specs.declared.event.Event.{Event}
use Rattle.camac_event.proofs.Files.{IsBytes, record_takes}

-- Reading words one after the other, as a loop does.

-- what was read before, and what is still read
abbrev pub with_prefix : List ℕ → Result (List ℕ × List ℕ) Flaw → Result (List ℕ × List ℕ) Flaw
with_prefix prefix read = read >>= λ x. Ok (prefix ++ x.0, x.1)

regroup : (prefix : List ℕ) (n : ℕ) (read : Result (List ℕ × List ℕ) Flaw) → with_prefix prefix (read >>= λ x. Ok (n ∷ x.0, x.1)) ≡ with_prefix (prefix ++ n ∷ []) read
regroup prefix n (Ok x) = ap (λ (ns : List ℕ). Ok (ns, x.1)) (simp append_assoc)
regroup prefix n (Err f) = refl

pub starts : (read : Result (List ℕ × List ℕ) Flaw) → with_prefix [] read ≡ read
starts (Ok x) = refl
starts (Err f) = refl

pub goes_on : (prefix : List ℕ) (count i file : ℕ) (bytes : List ℕ) (n : ℕ) (after : List ℕ) (total : Result (List ℕ × List ℕ) Flaw) → i < count → word_at file bytes ≡ Ok (n, after)
    → with_prefix prefix (words_at (count - i) file bytes) ≡ total → with_prefix (prefix ++ n ∷ []) (words_at (count - (i + 1)) file after) ≡ total
unfolding words_at
goes_on prefix count i file bytes n after total lt h so_far =
    let k : count - i ≡ suc (count - (i + 1)) = omega arith in
    let one : with_prefix prefix (words_at (count - i) file bytes) ≡ with_prefix (prefix ++ n ∷ []) (words_at (count - (i + 1)) file after) = rw (k, h) (regroup prefix n (words_at (count - (i + 1)) file after)) in
    sym one ∙ so_far

pub ends : (f : Flaw) (prefix : List ℕ) (count i file : ℕ) (bytes : List ℕ) (total : Result (List ℕ × List ℕ) Flaw) → i < count → word_at file bytes ≡ Err f
    → with_prefix prefix (words_at (count - i) file bytes) ≡ total → total ≡ Err f
unfolding words_at
ends f prefix count i file bytes total lt h so_far =
    let k : count - i ≡ suc (count - (i + 1)) = omega arith in
    let one : with_prefix prefix (words_at (count - i) file bytes) ≡ Err f = rw (k, h) refl in
    sym so_far ∙ one

pub is_done : (prefix : List ℕ) (count i file : ℕ) (bytes : List ℕ) (total : Result (List ℕ × List ℕ) Flaw) → count ≤ i → with_prefix prefix (words_at (count - i) file bytes) ≡ total → total ≡ Ok (prefix, bytes)
unfolding words_at
is_done prefix count i file bytes total le so_far =
    let k : count - i ≡ 0 = omega arith in
    let one : with_prefix prefix (words_at (count - i) file bytes) ≡ Ok (prefix, bytes) = rw k (ap (λ (ns : List ℕ). Ok (ns, bytes)) (append-nil prefix)) in
    sym so_far ∙ one

-- Reading records one after the other, as a loop does.

-- what was read before, and what is still read
abbrev pub with_events : List Entry → Result (List Entry) Flaw → Result (List Entry) Flaw
with_events prefix read = read >>= λ es. Ok (prefix ++ es)

-- The records before and those of the rest are those of the file.
pub record IsReading (version : Version) (total : ℕ) (prefix : List Entry) (rest : List ℕ) (all : Result (List Entry) Flaw) : Type 0 where
  pub most : ℕ
  pub enough : length rest ≤ most
  pub fits : IsBytes rest
  pub same : with_events prefix (records_at most version (length prefix + 1) total rest) ≡ all

pub records_start : (version : Version) (total : ℕ) (bytes : List ℕ) → IsBytes bytes → IsReading version total [] bytes (records_at (length bytes) version 1 total bytes)
records_start version total bytes fits = record { most = length bytes; enough = omega arith; fits = fits; same = nothing (records_at (length bytes) version 1 total bytes) } where
  nothing : (read : Result (List Entry) Flaw) → with_events [] read ≡ read
  nothing (Ok es) = refl
  nothing (Err f) = refl

regroup_events : (prefix : List Entry) (e : Entry) (read : Result (List Entry) Flaw) → with_events prefix (read >>= λ es. Ok (e ∷ es)) ≡ with_events (prefix ++ e ∷ []) read
regroup_events prefix e (Ok es) = ap (λ (xs : List Entry). Ok xs) (simp append_assoc)
regroup_events prefix e (Err f) = refl

pub shortens : (version : Version) (number total : ℕ) (bytes : List ℕ) (e : Entry) (after : List ℕ) → IsBytes bytes → record_at version number total bytes ≡ Ok (e, after) → length after < length bytes
shortens version number total bytes e after fits h =
    let t = (record_takes version number total bytes (e, after) fits h).0 in
    let lengths : length bytes ≡ length (record_of number e) + length after = ap length t.parts ∙ length-append (record_of number e) after in
    omega arith

next_at : (most : ℕ) (version : Version) (number total : ℕ) (b : ℕ) (bytes : List ℕ) (prefix : List Entry) (e : Entry) (after : List ℕ) → record_at version number total (b ∷ bytes) ≡ Ok (e, after)
    → with_events prefix (records_at (suc most) version number total (b ∷ bytes)) ≡ with_events (prefix ++ e ∷ []) (records_at most version (number + 1) total after)
unfolding records_at
next_at most version number total b bytes prefix e after h = rw h (regroup_events prefix e (records_at most version (number + 1) total after))

pub records_go_on : (version : Version) (total : ℕ) (prefix : List Entry) (rest : List ℕ) (all : Result (List Entry) Flaw) (e : Entry) (after : List ℕ) → 0 < length rest → IsReading version total prefix rest all
    → record_at version (length prefix + 1) total rest ≡ Ok (e, after) → IsReading version total (prefix ++ e ∷ []) after all
records_go_on version total prefix [] all e after some r h = absurd (omega arith)
records_go_on version total prefix (b ∷ rest) all e after some r h =
    let shorter = shortens version (length prefix + 1) total (b ∷ rest) e after r.fits h in
    let most_is : r.most ≡ suc (r.most - 1) = omega (arith, r.enough) in
    let before : with_events prefix (records_at (suc (r.most - 1)) version (length prefix + 1) total (b ∷ rest)) ≡ all = rw (← most_is) r.same in
    let number_is : length (prefix ++ e ∷ []) + 1 ≡ (length prefix + 1) + 1 = omega (arith, length-append prefix (e ∷ [])) in
    record {
      most = r.most - 1;
      enough = omega (arith, r.enough);
      fits = (record_takes version (length prefix + 1) total (b ∷ rest) (e, after) r.fits h).0.rest_fits;
      same = rw number_is (sym (next_at (r.most - 1) version (length prefix + 1) total b rest prefix e after h) ∙ before);
    }

fails_at : (most : ℕ) (version : Version) (number total : ℕ) (b : ℕ) (bytes : List ℕ) (prefix : List Entry) (f : Flaw) → record_at version number total (b ∷ bytes) ≡ Err f
    → with_events prefix (records_at (suc most) version number total (b ∷ bytes)) ≡ Err f
unfolding records_at
fails_at most version number total b bytes prefix f h = rw h refl

pub records_end : (f : Flaw) (version : Version) (total : ℕ) (prefix : List Entry) (rest : List ℕ) (all : Result (List Entry) Flaw) → 0 < length rest → IsReading version total prefix rest all
    → record_at version (length prefix + 1) total rest ≡ Err f → all ≡ Err f
records_end f version total prefix [] all some r h = absurd (omega arith)
records_end f version total prefix (b ∷ rest) all some r h =
    let most_is : r.most ≡ suc (r.most - 1) = omega (arith, r.enough) in
    let before : with_events prefix (records_at (suc (r.most - 1)) version (length prefix + 1) total (b ∷ rest)) ≡ all = rw (← most_is) r.same in
    sym before ∙ fails_at (r.most - 1) version (length prefix + 1) total b rest prefix f h

pub records_done : (version : Version) (total : ℕ) (prefix : List Entry) (rest : List ℕ) (all : Result (List Entry) Flaw) → length rest ≡ 0 → IsReading version total prefix rest all → all ≡ Ok prefix
unfolding records_at
records_done version total prefix [] all none r = sym r.same ∙ ap (λ (xs : List Entry). Ok xs) (append-nil prefix)
records_done version total prefix (b ∷ rest) all none r = absurd (omega arith)

-- Writing records one after the other.

pub records_from-push : (number : ℕ) (es : List Entry) (e : Entry) → records_from number (es ++ e ∷ []) ≡ records_from number es ++ record_of (number + length es) e
records_from-push number [] e = append-nil (record_of number e) ∙ ap (λ (n : ℕ). record_of n e) (sym (add-zero number))
records_from-push number (x ∷ xs) e =
    let later : (number + 1) + length xs ≡ number + length (x ∷ xs) = omega arith in
    ap (λ (t : List ℕ). record_of number x ++ t) (records_from-push (number + 1) xs e ∙ ap (λ (n : ℕ). records_from (number + 1) xs ++ record_of n e) later)
    ∙ sym (append_assoc (record_of number x) (records_from (number + 1) xs) (record_of (number + length (x ∷ xs)) e))

-- the next record was written
pub records_more : (es : List Event) (i : ℕ) (e : Event) (number : ℕ) (old mid new : Option (List ℕ)) → i < length es → e ≡ get_or es i e → number ≡ i
    → Appends old mid (records_from 1 (entries_of (take i es))) → Appends mid new (record_of (number + 1) (entry_of e)) → Appends old new (records_from 1 (entries_of (take (i + 1) es)))
records_more es i e number old mid new lt is number_is before after =
    let prefix = entries_of (take i es) in
    let longer : entries_of (take (i + 1) es) ≡ prefix ++ entry_of e ∷ [] =
    ap entries_of (take_more es i e lt ∙ ap (λ (x : Event). take i es ++ x ∷ []) (sym is)) ∙ map_push entry_of (take i es) e in
    let count : number + 1 ≡ 1 + length prefix = rw length-map (omega (arith, length-take i es)) in
    let same : records_from 1 prefix ++ record_of (number + 1) (entry_of e) ≡ records_from 1 (entries_of (take (i + 1) es)) =
    ap (λ (n : ℕ). records_from 1 prefix ++ record_of n (entry_of e)) count ∙ sym (records_from-push 1 prefix (entry_of e)) ∙ ap (records_from 1) (sym longer) in
    subst (Appends old new) same (Appends-trans old mid new (records_from 1 prefix) (record_of (number + 1) (entry_of e)) before after)

words_short : (version : Version) (es : List Event) → AllByRecursion (IsEvent version) (entries_of es) → AllByRecursion (λ e. length e.words.items ≤ 4096) es
words_short version [] fits = tt
words_short version (e ∷ es) fits = (fits.0.count, words_short version es fits.1)

pub all_short : (version : Version) (es : List Event) → AllByRecursion (IsEvent version) (entries_of es) → All (λ e. length e.words.items ≤ 4096) es
all_short version es fits = All-from_recursion (λ e. length e.words.items ≤ 4096) es (words_short version es fits)

pub AllByRecursion-push : {X : Type 0} (P : X → Type 0) (xs : List X) (x : X) → AllByRecursion P xs → P x → AllByRecursion P (xs ++ x ∷ [])
AllByRecursion-push P [] x h p = (p, tt)
AllByRecursion-push P (y ∷ ys) x h p = (h.0, AllByRecursion-push P ys x h.1 p)

entry_fits : (version : Version) (es : List Event) (i : ℕ) (e : Event) → AllByRecursion (IsEvent version) (entries_of es) → slice_get es i ≡ Some e → IsEvent version (entry_of e)
entry_fits version [] i e fits h = absurd cc
entry_fits version (x ∷ xs) zero e fits h =
    let same : x ≡ e = cc in
    subst (λ (y : Event). IsEvent version (entry_of y)) same fits.0
entry_fits version (x ∷ xs) (suc i) e fits h = entry_fits version xs i e fits.1 h

pub found_fits : (version : Version) (es : List Event) (i : ℕ) (found : Option (Bor Event)) → AllByRecursion (IsEvent version) (entries_of es) → IsItemAt es i found
    → IfSome found (λ e. IsEvent version (entry_of e.now))
found_fits version es i None fits h = tt
found_fits version es i (Some e) fits h = entry_fits version es i e.now fits (slice_get_read es (length es) i e.now refl h.3.0 h.1)
