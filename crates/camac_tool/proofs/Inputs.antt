-- What an engine has read is what the words' inputs have.
use Rattle.std.proofs.Common.{◌≡◌, ◌⊎◌, ◌↔◌, ◌++◌, ◌+◌, ◌<◌, ℕ, Bool, true, false, List, Option, None, Some, refl, sym, ap, subst, ◌∙◌, inl, inr, length, append-nil, arith}
use Rattle.std.proofs.lemmas.List.{length-append}
use Rattle.std.specs.Prelude.{Result, Ok, Err, IfOk, IsOk, IsOkAnd, OnErr}
use Rattle.std.specs.Io.KnownBytes.{Keeps}
use Rattle.clap.specs.Words.{Text}
use Rattle.camac_engines.specs.Found.{Found, HasJudged, HasRead, IsTooLong}
use Rattle.camac_engines.specs.Plan.{IsPlanTooLong, PlanFound, Says}
use Rattle.camac_engines.specs.Reading.{ConsumesSome, WasRead}
use Rattle.camac_engines.specs.declared.judging.Judged.{Judged}
use Rattle.camac_engines.specs.declared.plan.PlanSource.{PlanSource}
use Rattle.camac_engines.specs.declared.plan.PlanSource.TheVariants as source
use Rattle.camac_engines.specs.declared.reading.TheConstants.{TEXT_LIMIT}
use Rattle.camac_tool_host.specs.Apart.{Differs, IsApart, IsApartFrom, IsNamed, IsOther, IsTaken, IsTakenBy, Meets, Opens, OpensPlan, PlanDiffers, PlanMeets, Words, is_same, is_sample, name_of}
use Rattle.camac_tool.specs.Input.{HaveLong, IsFoundIn, IsInputOf, IsJudgedIn, IsLong, IsLongPlan, IsPlanIn, IsSourceOf, IsTextOf}
use Rattle.camac_tool_host.specs.declared.host.FileId.{FileId}

-- what was left was all that is known, and nothing is left now
pub read_text : (limit : ℕ) (known old new : Option (List ℕ)) (text : List ℕ) → Keeps known old → WasRead limit old new text → IsTextOf limit known text
read_text limit None old new text kept read = (read.0, tt)
read_text limit (Some xs) None new text kept read = absurd kept
read_text limit (Some xs) (Some ys) None text kept read = absurd read.1
read_text limit (Some xs) (Some ys) (Some zs) text kept read =
    (read.0, sym (append-nil text) ∙ ap (λ (l : List ℕ). text ++ l) (sym read.2) ∙ sym read.1 ∙ kept)

-- an input that gave more than the limit has more
pub read_long : (limit : ℕ) (known old new : Option (List ℕ)) → Keeps known old → ConsumesSome old new (limit + 1) → IsLong limit known
read_long limit None old new kept c = (c.0, omega (arith, c.1), tt)
read_long limit (Some xs) None new kept c = absurd kept
read_long limit (Some xs) (Some ys) None kept c = absurd c.2
read_long limit (Some xs) (Some ys) (Some zs) kept c =
    (ys, subst (λ (l : List ℕ). limit < length l) (sym c.2) (subst (λ (n : ℕ). limit < n) (sym (length-append c.0 zs)) (omega (arith, c.1))), kept)

pub plan_long : {I : Type 0} (left : I → Option (List ℕ)) (known : Option (List ℕ)) (b : Bool) (input : Option I) (old new : PlanSource I) → IsInputOf left known b input → IsSourceOf input old → IsPlanTooLong left old new
    → IsLongPlan b known
plan_long left known true None source.Sample new i s h = absurd h
plan_long left known true None (source.Text w) new i s h = absurd s
plan_long left known true (Some x) old new i s h = absurd i
plan_long left known false None old new i s h = absurd i
plan_long left known false (Some x) source.Sample new i s h = absurd s
plan_long left known false (Some x) (source.Text w) source.Sample i s h = absurd h
plan_long left known false (Some x) (source.Text w) (source.Text v) i s h = read_long TEXT_LIMIT known (left w) (left v) (subst (λ y. Keeps known (left y)) (sym s) i) h

pub plan_read : {I : Type 0} (left : I → Option (List ℕ)) (known : Option (List ℕ)) (b : Bool) (input : Option I) (old new : PlanSource I) (says : PlanFound) → IsInputOf left known b input → IsSourceOf input old
    → Says left old new says → IsPlanIn b known says
plan_read left known true None source.Sample source.Sample says i s h = h
plan_read left known true None source.Sample (source.Text w) says i s h = absurd h
plan_read left known true None (source.Text w) new says i s h = absurd s
plan_read left known true (Some x) old new says i s h = absurd i
plan_read left known false None old new says i s h = absurd i
plan_read left known false (Some x) source.Sample new says i s h = absurd s
plan_read left known false (Some x) (source.Text w) source.Sample says i s h = absurd h
plan_read left known false (Some x) (source.Text w) (source.Text v) says i s h =
    (h.0, read_text TEXT_LIMIT known (left w) (left v) h.0 (subst (λ y. Keeps known (left y)) (sym s) i) h.1, h.2)

-- of a plan that is read from the input of its word, and a script from that of its own
module _ (bytes_of : Text → Option (List ℕ)) (plan script : Text) {I : Type 0} (left : I → Option (List ℕ)) (input : Option I) (old new : PlanSource I) (s t : Option (List ℕ))
    (is_input : IsInputOf left (bytes_of plan) (is_sample plan) input) (is_source : IsSourceOf input old) (kept : Keeps (bytes_of script) s) where
  pub found_read : (found : Found) → HasRead left old new s t found → IsFoundIn bytes_of plan script found
  found_read (Ok found) h =
      (plan_read left (bytes_of plan) (is_sample plan) input old new (Ok found.0) is_input is_source h.0, read_text TEXT_LIMIT (bytes_of script) s t found.1 kept h.1)
  found_read (Err why) h = plan_read left (bytes_of plan) (is_sample plan) input old new (Err why) is_input is_source h.0

  pub long_read : IsTooLong left old new s t → HaveLong bytes_of plan script
  long_read (inl h) = inl (plan_long left (bytes_of plan) (is_sample plan) input old new is_input is_source h.0)
  long_read (inr h) = inr (h.0, plan_read left (bytes_of plan) (is_sample plan) input old new (Ok h.0) is_input is_source h.1, read_long TEXT_LIMIT (bytes_of script) s t kept h.2)

  pub judged_read : (j : Judged) → HasJudged left old new s t j → IsJudgedIn bytes_of plan script j
  judged_read j h = (h.0, found_read h.0 h.1, h.2)

-- EVENTS is apart from the words' files where it is from those that their inputs read
module _ (finds : Text → Option FileId → Type 0) where
  other_of : (reads : FileId → Type 0) (word : Text) (file : FileId) → Opens finds reads word → Differs reads file → IsOther finds (name_of word) file
  other_of reads word file opens other = (other.0, opens other.0 other.1, other.2)

  plan_of : {I : Type 0} (reads : I → FileId → Type 0) (plan : Text) (input : Option I) (file : FileId) → OpensPlan finds reads plan input → PlanDiffers reads input file
      → (is_sample plan ≡ true) ⊎ IsOther finds (name_of plan) file
  plan_of reads plan None file sample other = inl sample
  plan_of reads plan (Some input) file opens other = inr (other_of (reads input) plan file opens other)

  pub apart_from : {I : Type 0} (reads : I → FileId → Type 0) (w : Words) (p : Option I) (s a : I) → OpensPlan finds reads w.plan p → Opens finds (reads s) w.script → Opens finds (reads a) w.answers
      → IsApart finds w.events (λ file. PlanDiffers reads p file × Differs (reads s) file × Differs (reads a) file) → IsApartFrom finds w
  apart_from reads w p s a of_plan of_script of_answers (inl none) = inl none
  apart_from reads w p s a of_plan of_script of_answers (inr (file, found, outputs, others)) =
      inr (file, found, outputs, (plan_of reads w.plan p file of_plan others.0, other_of (reads s) w.script file of_script others.1, other_of (reads a) w.answers file of_answers others.2))

-- it is one of them where it is one that their inputs read
module _ (finds : Text → Option FileId → Type 0) where
  named_of : (reads : FileId → Type 0) (word : Text) (file : FileId) → Opens finds reads word → Meets reads file → IsNamed finds (name_of word) file
  named_of reads word file opens met = (met.0, opens met.0 met.1, met.2)

  plan_named : {I : Type 0} (reads : I → FileId → Type 0) (plan : Text) (input : Option I) (file : FileId) → OpensPlan finds reads plan input → PlanMeets reads input file → IsNamed finds (name_of plan) file
  plan_named reads plan None file sample met = absurd met
  plan_named reads plan (Some input) file opens met = named_of (reads input) plan file opens met

  pub taken_by : {I : Type 0} (reads : I → FileId → Type 0) (w : Words) (p : Option I) (s a : I) → OpensPlan finds reads w.plan p → Opens finds (reads s) w.script → Opens finds (reads a) w.answers
      → IsTaken finds w.events (λ file. PlanMeets reads p file ⊎ (Meets (reads s) file ⊎ Meets (reads a) file)) → IsTakenBy finds w
  taken_by reads w p s a of_plan of_script of_answers (file, found, inl output) = (file, found, inl output)
  taken_by reads w p s a of_plan of_script of_answers (file, found, inr (inl met)) = (file, found, inr (inl (plan_named reads w.plan p file of_plan met)))
  taken_by reads w p s a of_plan of_script of_answers (file, found, inr (inr (inl met))) = (file, found, inr (inr (inl (named_of (reads s) w.script file of_script met))))
  taken_by reads w p s a of_plan of_script of_answers (file, found, inr (inr (inr met))) = (file, found, inr (inr (inr (named_of (reads a) w.answers file of_answers met))))

-- what the system found or read is another file than this, where the two were compared
pub other_was : {F : Type 0} (Is : FileId → Type 0) (file : FileId) (other : Result FileId F) → IsOkAnd other (λ o. is_same file o ≡ false) → IfOk other Is → Differs Is file
other_was Is file (Ok o) differs is = (o, is, differs)
other_was Is file (Err e) differs is = absurd differs

pub other_is : {T E F : Type 0} (Is : FileId → Type 0) (file : FileId) (r : Result T E) (other : Result FileId F) → (IsOk r ↔ IsOkAnd other (λ o. is_same file o ≡ false)) → IfOk other Is
    → IfOk r (λ _. Differs Is file)
other_is Is file (Err e) other says is = tt
other_is Is file (Ok x) other says is = other_was Is file other (says.0 refl) is

pub if_ok : {T E : Type 0} {A B : Type 0} (r : Result T E) → (A → B) → IfOk r (λ _. A) → IfOk r (λ _. B)
if_ok (Ok x) f a = f a
if_ok (Err e) f a = tt

-- or it is this one, or the system did not say which it is
pub other_met : {T E F : Type 0} (Fails : Type 0) (Is : FileId → Type 0) (file : FileId) (r : Result T E) (other : Result FileId F) → (IsOk r ↔ IsOkAnd other (λ o. is_same file o ≡ false)) → IfOk other Is
    → OnErr other Fails → OnErr r (Fails ⊎ Meets Is file)
other_met Fails Is file (Ok x) other says is fails = tt
other_met Fails Is file (Err e) (Err f) says is fails = inl fails
other_met Fails Is file (Err e) (Ok o) says is fails = by (is_same file o) refl
  where
    by : (b : Bool) → is_same file o ≡ b → Fails ⊎ Meets Is file
    by true same = inr (o, is, same)
    by false same = let no : false ≡ true = says.1 same in cc

pub on_err : {T E : Type 0} {A B : Type 0} (r : Result T E) → (A → B) → OnErr r A → OnErr r B
on_err (Ok x) f a = tt
on_err (Err e) f a = f a

pub if_err : {T E : Type 0} {A : Type 0} (r : Result T E) → A → OnErr r A
if_err (Ok x) a = tt
if_err (Err e) a = a

pub or_else : {A B C : Type 0} → (B → C) → (A ⊎ B) → A ⊎ C
or_else f (inl a) = inl a
or_else f (inr b) = inr (f b)
