-- What is told of a text that was held in memory, and then went out.
use Rattle.std.proofs.Common.{◌≡◌, ℕ, true, false, List, [], ◌++◌, Option, None, Some, refl, sym, ap, subst, ◌∙◌, inl, inr, append_assoc}
use Rattle.std.specs.Prelude.{Result, Ok, Err, is_err}
use Rattle.std.specs.Io.KnownBytes.{Appends, Keeps, append_known}
use Rattle.std.proofs.KnownBytes.{Appends-kept, Keeps-refl}
use Rattle.clap.specs.Words.{Text}
use Rattle.camac_word.specs.Writing.{AppendsPrefix, Writes}
use Rattle.camac_engines.specs.Engine.{IsWritten, is_write_fault}
use Rattle.camac_engines.specs.declared.fault.ToolFault.{ToolFault}
use Rattle.camac_engines.specs.declared.fault.ToolFault.TheVariants.{Read, Write, Memory, TooLong}
use Rattle.camac_engines.specs.declared.outcome.Outcome.{Outcome}
use Rattle.camac_response_times.specs.declared.setting.Misuse.{Misuse}
use Rattle.camac_tool.proofs.Ended.{beginning, nothing_held}
use Rattle.camac_tool.specs.Causes.{held_fault}
use Rattle.camac_tool.specs.Devices.{HasBeginning}
use Rattle.camac_tool_host.specs.Apart.{is_sample}
use Rattle.camac_tool.specs.Input.{HaveLong, IsLongPlan}
use Rattle.camac_tool.specs.Jobs.{HandsOn, Replies, TellsText, TellsUnless}
use Rattle.camac_tool.specs.declared.program.Done.{Done}
use Rattle.camac_tool.specs.declared.program.Done.TheVariants.{Answered, Misused, NoCode}
use Rattle.camac_tool.specs.declared.program.Question.{Question}
use Rattle.camac_tool.specs.declared.program.Question.TheVariants as question

-- a fault of an engine that writes to memory is none of a writer
pub no_write : {X : Type 0} (e : ToolFault) → is_write_fault {T = Done} (Err (held_fault e)) ≡ true → X
no_write Write is = let no : false ≡ true = is in cc
no_write Read is = let no : false ≡ true = is in cc
no_write Memory is = let no : false ≡ true = is in cc
no_write TooLong is = let no : false ≡ true = is in cc

-- nothing has come of it
pub none_told : (L : Type 0) (Says : Outcome → List ℕ → Type 0) (o : Option (List ℕ)) (e : ToolFault) → (e ≡ TooLong → L) → TellsText L Says o o (Err (held_fault e))
none_told L Says o Write long = Keeps-refl o
none_told L Says o Read long = Keeps-refl o
none_told L Says o Memory long = Keeps-refl o
none_told L Says o TooLong long = (long refl, Keeps-refl o)

held_told : (L : Type 0) (Says : Outcome → List ℕ → Type 0) (o u v : Option (List ℕ)) (e : ToolFault) → TellsText L Says u v (Err e) → TellsText L Says o o (Err (held_fault e))
held_told L Says o u v e told = none_told L Says o e (λ is. (subst (λ (x : ToolFault). TellsText L Says u v (Err x)) is told).0)

none_replied : (bytes_of : Text → Option (List ℕ)) (q : Question) (o u v : Option (List ℕ)) (e : ToolFault) → Replies bytes_of q u v (Err e) → Replies bytes_of q o o (Err (held_fault e))
none_replied bytes_of (question.Plan a plan) o u v e told = held_told _ _ o u v e told
none_replied bytes_of (question.Script a plan script) o u v e told = held_told _ _ o u v e told
none_replied bytes_of (question.Known line column turns plan script) o u v e told = held_told _ _ o u v e told
none_replied bytes_of (question.Response plan script every within) o u v e told = held_told _ _ o u v e told

-- A text xs is held, and an output has o.
appended : (o : Option (List ℕ)) (xs text : List ℕ) → xs ≡ text → Appends o (append_known o xs) text
appended None xs text is = tt
appended (Some ys) xs text is = ap (λ (l : List ℕ). ys ++ l) is

tells_on : (L : Type 0) (Says : Outcome → List ℕ → Type 0) (o : Option (List ℕ)) (xs : List ℕ) (done : Done) → TellsText L Says (Some []) (Some xs) (Ok done) → TellsText L Says o (append_known o xs) (Ok done)
tells_on L Says o xs (Answered outcome) told = (told.0, told.1, appended o xs told.0 told.2)
tells_on L Says o xs (Misused misuse) told = absurd told
tells_on L Says o xs (NoCode word) told = absurd told

unless_on : (Wrong : Misuse → Type 0) (L : Type 0) (Says : Outcome → List ℕ → Type 0) (o : Option (List ℕ)) (xs : List ℕ) (done : Done) → TellsUnless Wrong L Says (Some []) (Some xs) (Ok done)
    → TellsUnless Wrong L Says o (append_known o xs) (Ok done)
unless_on Wrong L Says o xs (Answered outcome) told = tells_on L Says o xs (Answered outcome) told
unless_on Wrong L Says o xs (Misused misuse) (wrong, none) = (wrong, subst (Keeps o) (sym (ap (append_known o) none ∙ nothing_held o)) (Keeps-refl o))
unless_on Wrong L Says o xs (NoCode word) told = absurd told

replies_on : (bytes_of : Text → Option (List ℕ)) (q : Question) (o : Option (List ℕ)) (xs : List ℕ) (done : Done) → Replies bytes_of q (Some []) (Some xs) (Ok done)
    → Replies bytes_of q o (append_known o xs) (Ok done)
replies_on bytes_of (question.Plan a plan) o xs done told = tells_on (IsLongPlan (is_sample plan.now) (bytes_of plan.now)) _ o xs done told
replies_on bytes_of (question.Script a plan script) o xs done told = tells_on (HaveLong bytes_of plan.now script.now) _ o xs done told
replies_on bytes_of (question.Known line column turns plan script) o xs done told = tells_on (HaveLong bytes_of plan.now script.now) _ o xs done told
replies_on bytes_of (question.Response plan script every within) o xs done told = unless_on _ (HaveLong bytes_of plan.now script.now) _ o xs done told

-- a part of it went out, or all
begun : (o p : Option (List ℕ)) (xs : List ℕ) → AppendsPrefix o p xs → HasBeginning (append_known o xs) p
begun None p xs out = ([], tt)
begun (Some ys) None xs (prefix, rest, split, some, out) = absurd out
begun (Some ys) (Some zs) xs (prefix, rest, split, some, out) =
    (rest, ap (λ (l : List ℕ). l ++ rest) out ∙ append_assoc ys prefix rest ∙ ap (λ (l : List ℕ). ys ++ l) (sym split))

all_out : (o p : Option (List ℕ)) (xs : List ℕ) → Appends o p xs → Keeps (append_known o xs) p
all_out None p xs out = tt
all_out (Some ys) None xs out = absurd out
all_out (Some ys) (Some zs) xs out = out

module _ (bytes_of : Text → Option (List ℕ)) (q : Question) (o : Option (List ℕ)) where
  pub none_handed : (u v : Option (List ℕ)) (e : ToolFault) → Replies bytes_of q u v (Err e) → HandsOn (Replies bytes_of q) o o (Err (held_fault e))
  none_handed u v e told = (o, inl (none_replied bytes_of q o u v e told), beginning o o (Keeps-refl o))

  -- it was held as xs, and then written, and what the writer holds back was handed on
  module _ (p p' : Option (List ℕ)) (xs : List ℕ) (done : Done) (told : Replies bytes_of q (Some []) (Some xs) (Ok done)) (kept : Keeps p p') where
    pub not_handed : {T E : Type 0} (r : Result T E) → Writes o p r xs → HandsOn (Replies bytes_of q) o p' (Err Write)
    not_handed r out = (append_known o xs, inr (refl, (Ok done, replies_on bytes_of q o xs done told)), by r out)
      where
        by : {T E : Type 0} (r : Result T E) → Writes o p r xs → HasBeginning (append_known o xs) p'
        by (Ok x) out = beginning _ p' (all_out o p' xs (Appends-kept o p p' xs out kept))
        by (Err e) (prefix, rest, split, some, out) = begun o p' xs (prefix, rest, split, some, Appends-kept o p p' prefix out kept)

    pub handed : {T E : Type 0} (r : Result T E) → is_err r ≡ false → Writes o p r xs → HandsOn (Replies bytes_of q) o p' (Ok done)
    handed (Ok x) is out = (append_known o xs, replies_on bytes_of q o xs done told, all_out o p' xs (Appends-kept o p p' xs out kept))
    handed (Err e) is out = let no : true ≡ false = is in cc

-- as the held bytes were, from none on
pub replied_as : (bytes_of : Text → Option (List ℕ)) (q : Question) (done : Done) (old new xs : List ℕ) → old ≡ [] → xs ≡ new → Replies bytes_of q (Some old) (Some new) (Ok done)
    → Replies bytes_of q (Some []) (Some xs) (Ok done)
replied_as bytes_of q done old new xs none same told =
    subst (λ (l : List ℕ). Replies bytes_of q (Some l) (Some xs) (Ok done)) none (subst (λ (l : List ℕ). Replies bytes_of q (Some old) (Some l) (Ok done)) (sym same) told)

pub written_as : (Says : Outcome → List ℕ → Type 0) (outcome : Outcome) (old new xs : List ℕ) → old ≡ [] → xs ≡ new → IsWritten Says (Some old) (Some new) (Ok outcome) → IsWritten Says (Some []) (Some xs) (Ok outcome)
written_as Says outcome old new xs none same told =
    subst (λ (l : List ℕ). IsWritten Says (Some l) (Some xs) (Ok outcome)) none (subst (λ (l : List ℕ). IsWritten Says (Some old) (Some l) (Ok outcome)) (sym same) told)

-- of a rule
module _ (Says : Outcome → List ℕ → Type 0) (o p : Option (List ℕ)) (xs : List ℕ) (outcome : Outcome) (told : IsWritten Says (Some []) (Some xs) (Ok outcome)) where
  pub some_told : AppendsPrefix o p xs → TellsText ⊥ Says o p (Err Write)
  some_told out = (outcome, told.0, told.1, subst (AppendsPrefix o p) told.2 out)
