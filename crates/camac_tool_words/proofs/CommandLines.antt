-- What command lines come to: their faults, what a command takes after one more argument, and numbers one after the other.
use Rattle.std.proofs.Common.{◌≡◌, ◌<◌, ◌∙◌, ap, refl, subst, List, inl, inr, true, ap₂, false, ◌||◌, ℕ, zero, suc, ◌+◌, [], ◌∷◌, ◌++◌, map, drop, length, slice_index_or, sym, arith}
use Rattle.clap.specs.Words.{App, HasKind, Row, Text, fault_of, is_simple_and_free, kind_of, subcommand_of, takes, AddsArg, Rule, app_of, rule_of, with_rule}
use Rattle.clap.specs.declared.error.Error.{Error}
use Rattle.clap.specs.declared.error.kind.ErrorKind.TheVariants as kind
use Rattle.clap.specs.declared.builder.arg.Arg.{Arg}
use Rattle.clap.specs.declared.builder.command.Command.{Command}
use Rattle.clap.specs.declared.builder.command.Command.TheViews.{out-Command}
use Rattle.std.specs.Prelude.{Option, Result, IfOk}
use Rattle.std.proofs.lemmas.Result.{IfOk-weaker}
use Rattle.std.proofs.lemmas.List.{append-nil, append_assoc}
use Rattle.camac_tool_words.specs.declared.words.Job.{Job}
use Rattle.camac_tool_words.specs.declared.words.JobFault.{JobFault}
use Rattle.camac_tool_words.specs.declared.words.JobFault.TheVariants.{Usage, InTwice}
use Rattle.camac_tool_words.specs.Words.{camac_app, IsFaultOf, IsJob, IsOfMemory, NamesNoJob, input_count_of, AreNumbers, IsNumber}

pub of_memory : (words : List Text) (f : JobFault) → IsOfMemory f → IsFaultOf words f
of_memory words (Usage e) h = inl ((λ _. h), inl h)
of_memory words InTwice h = absurd h

-- no word of the command has a rule on another
free : is_simple_and_free camac_app ≡ true
free = refl

pub of_usage :
    (a : App) (words : List Text) (e : Error) → (takes a words ≡ true → kind_of e ≡ kind.OutOfMemory)
    → (is_simple_and_free a ≡ true → HasKind (fault_of a words) e) → a ≡ camac_app → IsFaultOf words (Usage e)
of_usage a words e passes kinds same =
    inl ((λ t. passes (rw same t)), subst (λ b. HasKind (fault_of b words) e) same (kinds (rw same free)))

pub of_no_job :
    (a : App) (words : List Text) (e : Error) (found : Option (Text × List Row)) → found ≡ subcommand_of a words → a ≡ camac_app
    → NamesNoJob found → IsFaultOf words (Usage e)
of_no_job a words e found named same none = inr (subst (λ f. NamesNoJob f) (named ∙ ap (λ b. subcommand_of b words) same) none)

pub of_job :
    (a : App) (words : List Text) (job : Job) (found : Option (Text × List Row)) → found ≡ subcommand_of a words → a ≡ camac_app
    → IsJob job found → IsJob job (subcommand_of camac_app words)
of_job a words job found named same is = subst (λ f. IsJob job f) (named ∙ ap (λ b. subcommand_of b words) same) is

pub of_two :
    (words : List Text) (job : Job) → IsJob job (subcommand_of camac_app words) → 1 < input_count_of job → IsFaultOf words InTwice
of_two words job is more = (job, is, more)

abbrev pub Takes : App → Command → Type 0
Takes app c = (app_of c ≡ app) × ((out-Command c).has_globals ≡ false)

pub with_argument : (app : App) (rule : Rule) (old : Command) (a : Arg) (new : Command) → Takes app old → rule_of a ≡ rule → a.global ≡ false → AddsArg old a new → Takes (with_rule app rule) new
with_argument app rule old a new takes is local h = (h.shape local ∙ ap₂ with_rule takes.0 is, h.globals ∙ ap₂ ◌||◌ takes.1 local)

pub with_last : {E : Type 0} (app : App) (rule : Rule) (old : Command) (a : Arg) (r : Result Command E) → Takes app old → rule_of a ≡ rule → a.global ≡ false → IfOk r (λ c. AddsArg old a c)
    → IfOk r (λ c. app_of c ≡ with_rule app rule) × IfOk r (λ c. (out-Command c).has_globals ≡ false)
with_last app rule old a r takes is local added = (
  IfOk-weaker r _ _ (λ new h. (with_argument app rule old a new takes is local h).0) added,
  IfOk-weaker r _ _ (λ new h. (with_argument app rule old a new takes is local h).1) added,
)

pub further : {A B : Type 0} (f : A → B) (xs : List A) (i : ℕ) (d : A) → i < length xs → drop i (map f xs) ≡ f (slice_index_or xs i d) ∷ drop (i + 1) (map f xs)
further f [] i d less = absurd (omega (arith, less))
further f (x ∷ xs) zero d less = refl
further f (x ∷ xs) (suc i) d less =
    let on : suc (i + 1) ≡ suc i + 1 = omega arith in
    further f xs i d (omega (arith, less)) ∙ ap (λ n. f (slice_index_or xs i d) ∷ drop n (f x ∷ map f xs)) on

-- these are read, and what is left decides
pub record AreRead (all left : List Text) (so_far : List ℕ) : Type 0 where
  pub read : (ns : List ℕ) → AreNumbers left ns → AreNumbers all (so_far ++ ns)
  pub undecided : (ns : List ℕ) → AreNumbers all ns → (rest : List ℕ) × AreNumbers left rest

pub none_read : (all : List Text) → AreRead all all []
none_read all = record { read = λ ns a. a; undecided = λ ns a. (ns, a) }

first_of_them : (word : Text) (left : List Text) (ns : List ℕ) → AreNumbers (word ∷ left) ns → (n : ℕ) × IsNumber word n × ((rest : List ℕ) × AreNumbers left rest)
first_of_them word left [] a = absurd a
first_of_them word left (n ∷ ns) a = (n, a.0, (ns, a.1))

module _ (all left : List Text) (word : Text) (rest : List Text) (so_far : List ℕ) (so : AreRead all left so_far) (is : left ≡ word ∷ rest) where
  next_of_them : (ns : List ℕ) → AreNumbers all ns → (n : ℕ) × IsNumber word n × ((more : List ℕ) × AreNumbers rest more)
  next_of_them ns a =
      let found = so.undecided ns a in
      first_of_them word rest found.0 (subst (λ ws. AreNumbers ws found.0) is found.1)

  pub one_more : (n : ℕ) (longer : List ℕ) → IsNumber word n → longer ≡ so_far ++ n ∷ [] → AreRead all rest longer
  one_more n longer one more = record {
    read = λ ns a. subst (AreNumbers all) (sym (ap (λ l. l ++ ns) more ∙ append_assoc so_far (n ∷ []) ns)) (so.read (n ∷ ns) (subst (λ ws. AreNumbers ws (n ∷ ns)) (sym is) (one, a)));
    undecided = λ ns a. (next_of_them ns a).2;
  }

  pub not_one : ((n : ℕ) → IsNumber word n → ⊥) → (ns : List ℕ) → AreNumbers all ns → ⊥
  not_one none ns a = let found = next_of_them ns a in none found.0 found.1

pub all_read : (all left : List Text) (so_far : List ℕ) → AreRead all left so_far → left ≡ [] → AreNumbers all so_far
all_read all left so_far so is = subst (AreNumbers all) (append-nil so_far) (so.read [] (subst (λ ws. AreNumbers ws []) (sym is) tt))
