-- Cycles that a test for one more cycle wants, whatever the test.
use Rattle.std.proofs.Common.{◌≡◌, ℕ, zero, suc, ◌<◌, ◌≤◌, Bool, false, List, [], ◌∷◌, ◌++◌, refl, sym, ap, ◌∙◌, subst, arith, Option, Some, None, inl, inr, append_assoc}
use Rattle.std.specs.Prelude.{◌⊎◌, ◌↔◌, IsSome}
use Rattle.std.proofs.lemmas.List.{append-nil}
use Rattle.camac_branch.specs.Address.{Address}
use Rattle.camac_esone.specs.Transfers.{NextAddress}
use Rattle.camac_esone.specs.Lists.{Cycle, replies}
use Rattle.camac_esone.specs.Laws.{IsDriven, IsDrivenToEnd, IsDrivenSoFar, GivesExactly, IsDrivenBy, AnyRepliesDrive}
use Rattle.camac_esone.proofs.Parts.{replies-append, each_prefix, each_more, each_none}

-- what a test wants, or that it wants no more
pub record HasNext (next_address : Option Address) : Type 0 where
  pub at : Address
  pub same : next_address ≡ Some at

pub asks : (next_address : Option Address) → (next_address ≡ None) ⊎ HasNext next_address
asks None = inl refl
asks (Some at) = inr (record { at = at; same = refl })

pub asks_some : (next_address : Option Address) → IsSome next_address → HasNext next_address
asks_some None h = cc
asks_some (Some at) h = record { at = at; same = refl }

pub is_some : (next_address : Option Address) (at : Address) → next_address ≡ Some at → IsSome next_address
is_some next_address at e = subst IsSome (sym e) refl

-- The prefix of a list that was driven was driven, and more was wanted.
pub prefix_driven : (next_address : NextAddress) (cycles rest : List Cycle) (c : Cycle) → IsDriven next_address (cycles ++ c ∷ rest) → IsDrivenSoFar next_address cycles
prefix_driven next_address cycles rest c h = record {
  driven = each_prefix (λ before d. next_address (replies before) ≡ Some d.at) cycles (c ∷ rest) h;
  goes_on = is_some (next_address (replies cycles)) c.at (h cycles rest c refl);
}

-- driven on from these cycles to the end
pub record Finished (next_address : NextAddress) (cycles : List Cycle) : Type 0 where
  pub rest : List Cycle
  pub whole : IsDrivenToEnd next_address (cycles ++ rest)

-- a number falls with each reply of Q=0 that was wanted
abbrev pub Falls : NextAddress → (List Bool → ℕ) → Type 0
Falls next_address left = (qs : List Bool) (at : Address) → next_address qs ≡ Some at → left (qs ++ false ∷ []) < left qs

-- one cycle more, with Q=0
abbrev zero_at : Address → Cycle
zero_at at = record { at = at; q = false }

abbrev with_zero : List Cycle → Address → List Cycle
with_zero cycles at = cycles ++ zero_at at ∷ []

more_driven : (next_address : NextAddress) (cycles : List Cycle) (c : Cycle) → IsDriven next_address cycles → next_address (replies cycles) ≡ Some c.at → IsDriven next_address (cycles ++ c ∷ [])
more_driven next_address cycles c h e = each_more (λ before d. next_address (replies before) ≡ Some d.at) cycles c h e

left_less : (next_address : NextAddress) (left : List Bool → ℕ) → Falls next_address left → (cycles : List Cycle) (at : Address) → next_address (replies cycles) ≡ Some at → left (replies (with_zero cycles at)) < left (replies cycles)
left_less next_address left falls cycles at e =
    subst (λ qs. left qs < left (replies cycles)) (sym (replies-append cycles (zero_at at ∷ []))) (falls (replies cycles) at e)

ends_here : (next_address : NextAddress) (cycles : List Cycle) → IsDriven next_address cycles → next_address (replies cycles) ≡ None → Finished next_address cycles
ends_here next_address cycles h e = record { rest = []; whole = subst (IsDrivenToEnd next_address) (sym (append-nil cycles)) (record { driven = h; ended = e }) }

one_before : (next_address : NextAddress) (cycles : List Cycle) (c : Cycle) → Finished next_address (cycles ++ c ∷ []) → Finished next_address cycles
one_before next_address cycles c f = record { rest = c ∷ f.rest; whole = subst (IsDrivenToEnd next_address) (append_assoc cycles (c ∷ []) f.rest) f.whole }

finishes : (next_address : NextAddress) (left : List Bool → ℕ) → Falls next_address left → (n : ℕ) (cycles : List Cycle) → left (replies cycles) ≤ n → IsDriven next_address cycles → Finished next_address cycles
finishes next_address left falls zero cycles le h =
    elim (asks (next_address (replies cycles))) [
      | inl e ↦ ends_here next_address cycles h e
      | inr w ↦ let lt = left_less next_address left falls cycles w.at w.same in absurd (omega arith)
    ]
finishes next_address left falls (suc n) cycles le h =
    elim (asks (next_address (replies cycles))) [
      | inl e ↦ ends_here next_address cycles h e
      | inr w ↦ let lt = left_less next_address left falls cycles w.at w.same in
          one_before next_address cycles (zero_at w.at)
          (finishes next_address left falls n (with_zero cycles w.at) (omega arith) (more_driven next_address cycles (zero_at w.at) h w.same))
    ]

-- A test whose cycles end, and whose lists are known, gives exactly these lists.
pub gives : (next_address : NextAddress) (IsList : List Cycle → Type 0) (left : List Bool → ℕ) → Falls next_address left → ((cycles : List Cycle) → IsList cycles ↔ IsDrivenToEnd next_address cycles) → GivesExactly next_address IsList
gives next_address IsList left falls same = record {
  whole = same;
  cut = λ cycles. (
    λ k. prefix_driven next_address cycles k.rest k.next ((same (cycles ++ k.next ∷ k.rest)).0 k.whole).driven,
    λ h. let w = asks_some (next_address (replies cycles)) h.goes_on in
        let more = with_zero cycles w.at in
        let f = finishes next_address left falls (left (replies more)) more (omega arith) (more_driven next_address cycles (zero_at w.at) h.driven w.same) in
        record {
          next = zero_at w.at;
          rest = f.rest;
          whole = subst IsList (append_assoc cycles (zero_at w.at ∷ []) f.rest) ((same (more ++ f.rest)).1 f.whole);
        },
  );
}

-- the cycles on further replies
drive : (next_address : NextAddress) (qs : List Bool) (cycles : List Cycle) → IsDriven next_address cycles → (all : List Cycle) × IsDrivenBy next_address (replies cycles ++ qs) all
drive next_address [] cycles h = (cycles, record { driven = h; unused = []; used = refl; stops = inr refl })
drive next_address (q ∷ qs) cycles h =
    elim (asks (next_address (replies cycles))) [
      | inl e ↦ (cycles, record { driven = h; unused = q ∷ qs; used = refl; stops = inl e })
      | inr w ↦ let c : Cycle = record { at = w.at; q = q } in
          let r = drive next_address qs (cycles ++ c ∷ []) (more_driven next_address cycles c h w.same) in
          let moved : replies (cycles ++ c ∷ []) ++ qs ≡ replies cycles ++ q ∷ qs
          = ap (λ l. l ++ qs) (replies-append cycles (c ∷ [])) ∙ append_assoc (replies cycles) (q ∷ []) qs in
          (r.0, record { driven = r.1.driven; unused = r.1.unused; used = r.1.used ∙ moved; stops = r.1.stops })
    ]

pub any_replies_drive : AnyRepliesDrive
any_replies_drive next_address qs = drive next_address qs [] (each_none (λ before d. next_address (replies before) ≡ Some d.at))
