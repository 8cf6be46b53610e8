-- A fault has a cause. Where each name has one file, no input reads that of EVENTS.
use Rattle.std.proofs.Common.{◌≡◌, ◌≤◌, ◌<◌, ◌⊎◌, ℕ, Bool, true, false, List, length, Option, Some, None, unwrap_or, codes, refl, sym, ap, subst, ◌∙◌, inl, inr, arith}
use Rattle.std.specs.Prelude.{◌||◌, IfSome, is_none, Result, Err}
use Rattle.std.proofs.lemmas.Bool.{eq-eqb}
use Rattle.std.specs.Io.KnownBytes.{Keeps}
use Rattle.clap.specs.Words.{Text}
use Rattle.camac_engines.specs.Plan.{plan_failed}
use Rattle.camac_engines.specs.Reading.{is_read_fault}
use Rattle.camac_engines.specs.declared.fault.ToolFault.{ToolFault}
use Rattle.camac_engines.specs.declared.fault.ToolFault.TheVariants.{Memory, Read, TooLong, Write}
use Rattle.camac_engines.specs.declared.plan.PlanSource.{PlanSource}
use Rattle.camac_engines.specs.declared.plan.PlanSource.TheVariants as source
use Rattle.camac_engines.specs.declared.reading.TheConstants.{EVENTS_LIMIT, TEXT_LIMIT}
use Rattle.camac_tool_words.specs.declared.words.Job.{Job}
use Rattle.camac_tool_words.specs.declared.words.Job.TheVariants as job
use Rattle.camac_tool_host.specs.Apart.{DiffersFromOutputs, IsApartFrom, IsOther, Opens, OpensPlan, Words, is_same, is_sample, name_of}
use Rattle.camac_tool_host.specs.declared.host.FileId.{FileId}
use Rattle.camac_tool.specs.Causes.{CanBeUnread, held_fault}
use Rattle.camac_tool.specs.Input.{HaveLong, IsLong, IsLongPlan}
use Rattle.camac_tool.specs.Status.{EndsStopped}

or_true : (a : Bool) → (a || true) ≡ true
or_true true = refl
or_true false = refl

-- Of a run: of two devices one has failed, or a call of the host fails, or another cause.
pub of_run : {Other : Type 0} (x y a b host k : Bool) → host ≡ k → (x || y) ≡ (a || b) → (y ≡ true → k ≡ true) → ((b ≡ true) ⊎ (k ≡ true)) → (x ≡ true) ⊎ ((host ≡ true) ⊎ Other)
of_run true y a b host k same flags cause why = inl refl
of_run false y a b host k same flags cause (inr fails) = inr (inl (same ∙ fails))
of_run false y a b host k same flags cause (inl wrote) = inr (inl (same ∙ cause (flags ∙ ap (λ c. a || c) wrote ∙ or_true a)))

-- where neither was
pub other_cause : {Other : Type 0} → ((false ≡ true) ⊎ ((false ≡ true) ⊎ Other)) → Other
other_cause (inl failed) = absurd (cc)
other_cause (inr (inl failed)) = absurd (cc)
other_cause (inr (inr other)) = other

no_call : {X : Type 0} → false ≡ true → X
no_call failed = absurd (cc)

pub none_unread : (j : Job) → CanBeUnread false j → ⊥
none_unread (job.Plan plan) failed = no_call failed
none_unread (job.Commands plan) failed = no_call failed
none_unread (job.ExplainPlan plan) failed = no_call failed
none_unread (job.ExplainRule code) none = none
none_unread (job.Check plan script) failed = no_call failed
none_unread (job.Explain plan script) failed = no_call failed
none_unread (job.ExplainBounds plan script) failed = no_call failed
none_unread (job.ExplainAt line column turns plan script) failed = no_call failed
none_unread (job.Bounds plan script) failed = no_call failed
none_unread (job.Costs plan script) failed = no_call failed
none_unread (job.Tell plan script) failed = no_call failed
none_unread (job.Response plan script every within) failed = no_call failed
none_unread (job.Events file) failed = no_call failed
none_unread (job.Run plan script answers events) failed = no_call failed
none_unread (job.Drive plan script events) failed = no_call failed

-- where each input is known, and not too long
module _ (bytes_of : Text → Option (List ℕ)) (known : (word : Text) → (text : List ℕ) × (bytes_of word ≡ Some text) × (length text ≤ 1048576)) where
  not_long : (limit : ℕ) (word : Text) → 1048576 ≤ limit → IsLong limit (bytes_of word) → ⊥
  not_long limit word within (text, over, kept) =
      let is = known word in
      let same : text ≡ is.0 = subst (λ (o : Option (List ℕ)). Keeps o (Some text)) is.1 kept in
      let more : limit < length is.0 = subst (λ (l : List ℕ). limit < length l) same over in
      absurd (omega (arith, within, more, is.2))

  no_long_plan : (b : Bool) (plan : Text) → IsLongPlan b (bytes_of plan) → ⊥
  no_long_plan true plan long = long
  no_long_plan false plan long = not_long TEXT_LIMIT plan (omega (arith)) long

pub none_have : (bytes_of : Text → Option (List ℕ)) (plan script : Text) → ((word : Text) → (text : List ℕ) × (bytes_of word ≡ Some text) × (length text ≤ 1048576)) → HaveLong bytes_of plan script → ⊥
none_have bytes_of plan script known (inl long) = no_long_plan bytes_of known (is_sample plan) plan long
none_have bytes_of plan script known (inr long) = not_long bytes_of known TEXT_LIMIT script (omega (arith)) long.2

pub none_long : (bytes_of : Text → Option (List ℕ)) (file : Text) → ((word : Text) → (text : List ℕ) × (bytes_of word ≡ Some text) × (length text ≤ 1048576)) → IsLong EVENTS_LIMIT (bytes_of file) → ⊥
none_long bytes_of file known long = not_long bytes_of known EVENTS_LIMIT file (omega (arith)) long

pub of_pipe : (fault : ToolFault) → EndsStopped fault 141 → fault ≡ Write
of_pipe Write ends = refl
of_pipe Read ends = let no : 141 ≡ 3 = ends.1 in absurd (cc)
of_pipe Memory ends = let no : 141 ≡ 3 = ends.1 in absurd (cc)
of_pipe TooLong ends = let no : 141 ≡ 3 = ends.1 in absurd (cc)

-- the fault of an engine, handed on
pub read_of : {T : Type 0} (U : Type 0) (e : ToolFault) (r : Result T ToolFault) → r ≡ Err e → is_read_fault r ≡ true → is_read_fault {T = U} (Err e) ≡ true
read_of U Read r same is = refl
read_of U Write r same is = let no : false ≡ true = sym (ap (λ x. is_read_fault x) same) ∙ is in cc
read_of U Memory r same is = let no : false ≡ true = sym (ap (λ x. is_read_fault x) same) ∙ is in cc
read_of U TooLong r same is = let no : false ≡ true = sym (ap (λ x. is_read_fault x) same) ∙ is in cc

pub read_held : (T U : Type 0) (e : ToolFault) → is_read_fault {T = T} (Err (held_fault e)) ≡ true → is_read_fault {T = U} (Err e) ≡ true
read_held T U Read is = refl
read_held T U Write is = let no : false ≡ true = is in cc
read_held T U Memory is = let no : false ≡ true = is in cc
read_held T U TooLong is = let no : false ≡ true = is in cc

-- it is none of a reader
pub none_read : (T : Type 0) (e : ToolFault) → (e ≡ Read → ⊥) → is_read_fault {T = T} (Err (held_fault e)) ≡ false
none_read T Read not = absurd (not refl)
none_read T Write not = refl
none_read T Memory not = refl
none_read T TooLong not = refl

-- a flag that is raised by this is up
pub raised : (now before by : Bool) → now ≡ (before || by) → by ≡ true → now ≡ true
raised now before by flags is = flags ∙ ap (λ c. before || c) is ∙ or_true before

-- of the readers of a plan, a script and answers
module _ {I : Type 0} (failed : I → Bool) (k : Bool) (cause : (i : I) → failed i ≡ true → k ≡ true) where
  pub of_plan : (p : PlanSource I) → plan_failed failed p ≡ true → k ≡ true
  of_plan source.Sample is = let no : false ≡ true = is in cc
  of_plan (source.Text i) is = cause i is

  pub of_texts : (p : PlanSource I) (i : I) → (plan_failed failed p || failed i) ≡ true → k ≡ true
  of_texts p i is = by (plan_failed failed p) refl is
    where
      by : (b : Bool) → plan_failed failed p ≡ b → (b || failed i) ≡ true → k ≡ true
      by true plan is = of_plan p plan
      by false plan is = cause i is

  pub of_readers : (p : PlanSource I) (i a : I) → ((plan_failed failed p || failed i) || failed a) ≡ true → k ≡ true
  of_readers p i a is = by (plan_failed failed p || failed i) refl is
    where
      by : (b : Bool) → (plan_failed failed p || failed i) ≡ b → (b || failed a) ≡ true → k ≡ true
      by true texts is = of_texts p i texts
      by false texts is = cause a is

same : (a : FileId) → is_same a a ≡ true
same a = rw (eq-eqb a.device a.device refl) (eq-eqb a.number a.number refl)

one_of : (a b : FileId) → Some a ≡ Some b → a ≡ b
one_of a b e = ap (λ (o : Option FileId). unwrap_or o a) e

module _ (has : Text → Option FileId → Bool) (one : (name : Text) (x y : Option FileId) → has name x ≡ true → has name y ≡ true → x ≡ y) where
  abbrev Has : Text → Option FileId → Type 0
  Has name x = has name x ≡ true

  no_name : (name : Text) (file : FileId) → IsOther Has name file → has name (Some file) ≡ false
  no_name name file (other, found, differs) = by (has name (Some file)) refl
    where
      by : (b : Bool) → has name (Some file) ≡ b → has name (Some file) ≡ false
      by false is = is
      by true is =
          let equal : is_same file other ≡ true = subst (λ x. is_same file x ≡ true) (one_of file other (one name (Some file) (Some other) is found)) (same file) in
          let no : true ≡ false = sym equal ∙ differs in
          cc

  no_read : (reads : FileId → Bool) (word : Text) (file : FileId) → Opens Has (λ f. reads f ≡ true) word → IsOther Has (name_of word) file → reads file ≡ false
  no_read reads word file opens other = by (reads file) refl
    where
      by : (b : Bool) → reads file ≡ b → reads file ≡ false
      by false is = is
      by true is = let no : true ≡ false = sym (opens file is) ∙ no_name (name_of word) file other in cc

  no_plan : (reads : ℕ → FileId → Bool) (plan : Text) (p : Option ℕ) (file : FileId) → OpensPlan Has (λ i f. reads i f ≡ true) plan p → (is_sample plan ≡ true) ⊎ IsOther Has (name_of plan) file
      → is_sample plan ≡ false → IfSome p (λ i. reads i file ≡ false)
  no_plan reads plan None file opens other named = tt
  no_plan reads plan (Some i) file opens (inl sample) named = let wrong : true ≡ false = sym sample ∙ named in cc
  no_plan reads plan (Some i) file opens (inr other) named = no_read (reads i) plan file opens other

  module _ (reads : ℕ → FileId → Bool) (w : Words) (p : Option ℕ) (s a : ℕ) (file : FileId) (of_plan : OpensPlan Has (λ i f. reads i f ≡ true) w.plan p)
      (of_script : Opens Has (λ f. reads s f ≡ true) w.script) (of_answers : Opens Has (λ f. reads a f ≡ true) w.answers) where
    abbrev Others : FileId → Type 0
    Others x = ((is_sample w.plan ≡ true) ⊎ IsOther Has (name_of w.plan) x) × IsOther Has (name_of w.script) x × IsOther Has (name_of w.answers) x

    abbrev IsNone : Type 0
    IsNone =
        (is_sample w.plan ≡ false → IfSome p (λ i. reads i file ≡ false)) × (reads s file ≡ false) × (reads a file ≡ false) × (has (codes "/proc/self/fd/1") (Some file) ≡ false)
        × (has (codes "/proc/self/fd/2") (Some file) ≡ false)

    differ : DiffersFromOutputs Has file → Others file → IsNone
    differ outputs others = (
      no_plan reads w.plan p file of_plan others.0,
      no_read (reads s) w.script file of_script others.1,
      no_read (reads a) w.answers file of_answers others.2,
      no_name (codes "/proc/self/fd/1") file outputs.0,
      no_name (codes "/proc/self/fd/2") file outputs.1,
    )

    pub none_is : IsApartFrom Has w → has w.events (Some file) ≡ true → IsNone
    none_is (inl none) is = let wrong : true ≡ false = ap (λ (o : Option FileId). is_none o) (one w.events None (Some file) none is) in cc
    none_is (inr (f, found, outputs, others)) is =
        let equal : f ≡ file = one_of f file (one w.events (Some f) (Some file) found is) in
        differ (subst (DiffersFromOutputs Has) equal outputs) (subst Others equal others)
