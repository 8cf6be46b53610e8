-- What is told of a service between services.
use Rattle.std.proofs.Common.{◌≡◌, ◌∙◌, ℕ, suc, List, length, map, false, Option, None, Some, Bor, refl, sym, ap, subst}
use Rattle.std.proofs.lemmas.Option.{slice_get-map, slice_get_read}
use Rattle.std.specs.Prelude.{is_some, option_map, slice_get}
use Rattle.std.specs.Slice.{IsItemAt}
use Rattle.camac_lang.specs.View.{service_of}
use Rattle.camac_lang.specs.declared.script.Service as rust
use Rattle.camac_run.specs.Ahead.{BeginsWith}
use Rattle.camac_run.specs.declared.member.Member.{Member}
use Rattle.camac_c.specs.Ahead.{numbers_ahead}
use Rattle.camac_c.specs.Talk.{TellsServiceAhead, TellsWords}
use Rattle.camac_c.specs.declared.plain.Told.{Told}
use Rattle.camac_c.specs.declared.session.Session.{Session}

none_is : {A : Type 0} (o : Option A) → is_some o ≡ false → o ≡ None
none_is None e = refl
none_is (Some x) e = absurd (cc)

item_at : {A : Type 0} (xs : List A) (i : ℕ) (found : Option (Bor A)) (x : Bor A) → IsItemAt xs i found → found ≡ Some x → slice_get xs i ≡ Some x.now
item_at xs i found x h is =
    let there : IsItemAt xs i (Some x) = subst (λ o. IsItemAt xs i o) is h in
    slice_get_read xs (length xs) i x.now refl there.3.0 there.1

pub told_first : (s : Session) (number i : ℕ) (old new : List ℕ) (told : Told) (services : List rust.Service) (found : Option (Bor rust.Service)) (x : Bor rust.Service) (os : List Member)
    → number ≡ suc i → map service_of services ≡ s.checked.now.script.services → IsItemAt services i found → found ≡ Some x → is_some s.runner.pending ≡ false
    → BeginsWith s.checked.now i os → TellsWords (numbers_ahead s.checked.now.plan s.runner os) old new told → TellsServiceAhead s number old new told
told_first s number i old new told services found x os e all h is idle begins words =
    let there : slice_get s.checked.now.script.services i ≡ Some (service_of x.now) = sym (ap (λ l. slice_get l i) all) ∙ slice_get-map service_of services i ∙ ap (option_map service_of) (item_at services i found x h is) in
    record { tells = rw (e, there, none_is s.runner.pending idle) (os, begins, words) }
