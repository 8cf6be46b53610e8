-- A session's handle taken apart, and the machine values that stand in it. Assumes `Logic`.
use Rattle.std.proofs.Common.{◌≡◌, ℕ, List, [], ◌∷◌, ◌++◌, refl, subst, ap, ◌∙◌}
use Rattle.std.proofs.GlobalToken.{dealloc_token-Testable}
use Rattle.std.proofs.alloc.Global.TheLaws as heap_laws
use Rattle.std.specs.Prelude.{Option, None, Some}
use Rattle.std.specs.Global.{Global}
use Rattle.std.specs.Box.Ownership.{box_owns as box_owns_of_ownership}
use Rattle.std.specs.contracts.impls.GlobalAllocator.TheImpl.{ghosts}
use Rattle.std.specs.contracts.alloc.Global as heap
use mathlib.Core.Bool.{true, ◌&&◌, Bool, false}
use lib.Dec.{T}
use seplogic.Ra.Ura.{Ura}
use mir.Syntax.{impl, tnil, dnil}
use mir.Raw.{raw as bare}
use mir.Val.{Val, vptr, vstruct, vcons, vnil, of_list, has_ty, WT}
use base.Logic.{never, fst∗, ent, guard, via, snd∗, guard_i}
use types.Logic.{Logic, sem}
use types.Kit.{Item, Goal, Seq, Step, step, ‵, ◌$◌, move, drop, fsplit, fjoin, fpick, fpack, feq_i, feq_l, given, fsplit3, fjoin3, use1, learn, rewrite}
use denote.RattleType.{RattleType, Valss}
use denote.Builtin.{RawPtr}
use denote.Memory.{lone}
use denote.RawPtr.{Ptr, block_ptr, null_ptr, ptr_val, in_a_block, lies_at, Testable}
use denote.Steps.{nothing, peeks}
use denote.Param.{layout}
use denote.Param.Laws.{Laws}
use denote.Struct.Struct.{within}
use denote.Struct.Owning.{shape, to}
use Rattle.core.specs.declared.alloc.Allocator.{Ghosts}
use Rattle.core.specs.declared.result.Result.{Result}
use Rattle.core.specs.declared.result.Result.TheVariants.{Ok, Err}
use Rattle.core.specs.contracts.result.Result as RS
use Rattle.core.proofs.alloc.Calls.{Al, handle_tells}
use Rattle.core.proofs.cell.Inside.{Good, one}
use Rattle.core.proofs.atomic.Steps.{Ptr-Good}
use Rattle.std_alloc.specs.Box.Ownership.{box_owns}
use Rattle.std_alloc.proofs.ResultValues.{and_tt}
use Rattle.camac_c.specs.contracts.loose.Loose as loose
use Rattle.camac_c.specs.Owned.{run_in, session_owns, run_boxed, script_boxed, open_at}
use Rattle.camac_c.specs.declared.session.Session.{Session as Run}
use Rattle.camac_c.specs.contracts.handle.Handle as handle
use base.Fraction.{full_share}
use base.Fml.{flft, flent}
use types.Match.{live}
use contract.Monad.{fact_use}
use denote.Laws.{Is, Lawful, Typed, shows}
use Rattle.camac_rules.specs.contracts.checked.Checked as script

-- The machine values of a `Loose`. Assumes `Logic`.

abbrev pub both : Val → Val → Val
both v w = vstruct (vcons v (vcons w vnil))

module _ (R Z : RattleType) (L : Laws Z) (g : Ghosts Z.Denot) where
  abbrev pub Loose : RattleType
  Loose = loose.the_row R Z g

  abbrev loose_al : Al
  loose_al = record { row = Z; laws = L; g = g; d = impl [] tnil dnil; drops = impl [] tnil dnil }

  pub loose_good : (b o : ℕ) (h : Val) → Good (layout Z) h → T (has_ty (layout Z) h && true) × WT (both (vptr b o) h)
  loose_good b o h fits = (and_tt (has_ty (layout Z) h) fits.0, (tt, (fits.1, tt)))

  module _ {M : Type 1} {𝓤 : Ura M} {𝓛 : Logic 𝓤} {K : Type 0} {Γ : List (Item 𝓤)} {G : Goal 𝓤 𝓛.H} where
    pub loose_out : K → (d : Loose.Denot) (vs : List Val)
        → ((b o : ℕ) (h : Val) → d.at ≡ block_ptr b o → vs ≡ both (vptr b o) h ∷ [] → Good (layout Z) h → Seq K 𝓛 (‵ (box_owns (g.dealloc_token d.alloc) R (block_ptr b o) d.value) ∷ ‵ (Z.own_val d.alloc (h ∷ [])) ∷ Γ) G)
        → Seq K 𝓛 (‵ (Loose.own_val d vs) ∷ Γ) G
    loose_out t d vs k =
        fsplit t $ fpick t (λ vss. fsplit t $ feq_l t (λ ev. fsplit t $ feq_l t (λ ep. fsplit t $ handle_tells loose_al t d.alloc vss.1.0 (λ h ea fits. move t (1 ∷ []) $ drop t $ move t (1 ∷ []) $
        in_a_block t d.at (λ p. box_owns (g.dealloc_token d.alloc) R p d.value) (fst∗ 𝓤 (never 𝓤) (sem 𝓛 (g.dealloc_token d.alloc (bare (lone R.mir)) null_ptr))) (λ b o e. k b o h e
        (subst (λ (p : Ptr). vs ≡ vstruct (of_list (ptr_val p ∷ h ∷ [])) ∷ []) e
        (subst (λ (ws : List Val). vs ≡ vstruct (of_list (ptr_val d.at ∷ (ws ++ []))) ∷ []) ea (subst (λ (ps : List Val). vs ≡ vstruct (of_list (ps ++ (vss.1.0 ++ []))) ∷ []) ep ev))) fits)))))

    pub loose_in : K → (b o : ℕ) (h : Val) (a : Z.Denot) (x : R.Denot)
        → Step K 𝓛 (‵ (Loose.own_val (record { at = block_ptr b o; alloc = a; value = x }) (both (vptr b o) h ∷ [])) ∷ Γ) G (‵ (box_owns (g.dealloc_token a) R (block_ptr b o) x) ∷ ‵ (Z.own_val a (h ∷ [])) ∷ Γ) G
    loose_in t b o h a x = step (λ s. let v : Val = both (vptr b o) h in
        nothing t $ move t (2 ∷ 0 ∷ []) $ fjoin t $ feq_i t (List Val) (vptr b o ∷ []) (vptr b o ∷ []) refl $ fjoin t $ feq_i t (List Val) (v ∷ []) (v ∷ []) refl $ fjoin t $
        fpack t (Valss (RawPtr ∷ Z ∷ [])) (within (shape (loose.the_type R Z g)) (block_ptr b o, (a, tt)) (v ∷ [])) (vptr b o ∷ [], (h ∷ [], tt)) $ fjoin t $ s)

-- A session's handle taken apart: nothing at null, else a lifetime, the box of the run, whose pointer may be compared with null, and the script's box for when the lifetime has ended. Assumes `Logic`.

abbrev Z : RattleType
Z = heap.the_row

abbrev pub al : Al
al = record { row = Z; laws = heap_laws.the_row_laws; g = ghosts; d = impl [] tnil dnil; drops = impl [] tnil dnil }

abbrev pub three : Val → Val → Val → Val
three u v w = vstruct (vcons u (vcons v (vcons w vnil)))

and2 : (x y : Bool) → T x → T y → T (x && y)
and2 true y s t = t
and2 false y s t = absurd s

pub three_good : (r p : Ptr) (h : Val) → Good (layout Z) h → Good (layout handle.the_row) (three (ptr_val r) (ptr_val p) h)
three_good r p h fits = (and2 _ _ (Ptr-Good r).0 (and2 _ _ (Ptr-Good p).0 (and_tt (has_ty (layout Z) h) fits.0)), ((Ptr-Good r).1, ((Ptr-Good p).1, (fits.1, tt))))

pub both_good : (p : Ptr) (h : Val) → Good (layout Z) h → T (has_ty mir.Syntax.ty_ptr (ptr_val p) && (has_ty (layout Z) h && true)) × WT (both (ptr_val p) h)
both_good p h fits = (and2 _ _ (Ptr-Good p).0 (and_tt (has_ty (layout Z) h) fits.0), ((Ptr-Good p).1, (fits.1, tt)))

module _ {M : Type 1} {𝓤 : Ura M} (𝓛 : Logic 𝓤) where
  tested : (a : Global) (R : RattleType) (p : Ptr) (x : R.Denot) → ent 𝓤 (sem 𝓛 (box_owns_of_ownership (ghosts.dealloc_token a) R p x)) (guard 𝓤 (Testable p) (sem 𝓛 (box_owns_of_ownership (ghosts.dealloc_token a) R p x)))
  tested a R p x = fact_use 𝓤 (Testable p) (via 𝓤 _ (snd∗ 𝓤 (sem 𝓛 (lies_at R full_share p x)) (sem 𝓛 (ghosts.dealloc_token a (bare (lone R.mir)) p))) (dealloc_token-Testable 𝓛 a (bare (lone R.mir)) p)) (guard_i 𝓤 (Testable p) (sem 𝓛 (box_owns_of_ownership (ghosts.dealloc_token a) R p x)))

module _ {M : Type 1} {𝓤 : Ura M} {𝓛 : Logic 𝓤} {K : Type 0} {Γ : List (Item 𝓤)} {G : Goal 𝓤 𝓛.H} where
  pub handle_out : K → (d : handle.the_row.Denot) (vs : List Val)
      → ((h : Val) → vs ≡ three (ptr_val d.run) (ptr_val d.script) h ∷ [] → Good (layout Z) h → Seq K 𝓛 (‵ (session_owns d.alloc d.run d.script d.value) ∷ ‵ (Z.own_val d.alloc (h ∷ [])) ∷ Γ) G)
      → Seq K 𝓛 (‵ (handle.the_row.own_val d vs) ∷ Γ) G
  handle_out t d vs k =
      fsplit t $ fpick t (λ vss. fsplit t $ feq_l t (λ ev. fsplit t $ feq_l t (λ er. fsplit t $ feq_l t (λ ep. fsplit t $ handle_tells al t d.alloc vss.1.1.0 (λ h ea fits. move t (1 ∷ []) $ drop t $ move t (1 ∷ []) $
      k h (subst (λ (ws : List Val). vs ≡ vstruct (of_list (ptr_val d.run ∷ (ptr_val d.script ∷ (ws ++ [])))) ∷ []) ea
      (subst (λ (ps : List Val). vs ≡ vstruct (of_list (ptr_val d.run ∷ (ps ++ (vss.1.1.0 ++ [])))) ∷ []) ep
      (subst (λ (rs : List Val). vs ≡ vstruct (of_list (rs ++ (vss.1.0 ++ (vss.1.1.0 ++ [])))) ∷ []) er ev))) fits)))))

  -- what is held: the run's box, the lifetime's whole token, the script's box for later
  pub either_owned : K → (a : Global) (r p : Ptr) (v : Option Run) → (r ≡ null_ptr → v ≡ None → Seq K 𝓛 Γ G)
      → ((b o : ℕ) (x : Run) (ν : ℕ) (y : script.the_row.Denot) → r ≡ block_ptr b o → v ≡ Some x → Testable (block_ptr b o)
      → Seq K 𝓛 (‵ (run_boxed a ν (block_ptr b o) x) ∷ ‵ (flft (ν ∷ []) full_share) ∷ ‵ (flent (ν ∷ []) (script_boxed a p y)) ∷ Γ) G)
      → Seq K 𝓛 (‵ (session_owns a r p v) ∷ Γ) G
  unfolding session_owns
  either_owned t a r p None none one = feq_l t (λ e. none e refl)
  either_owned t a r p (Some x) none one = fpick t (λ s. fsplit3 t $ move t (1 ∷ []) $
      in_a_block t r (λ q. run_boxed a s.0 q x) (fst∗ 𝓤 (never 𝓤) (sem 𝓛 (ghosts.dealloc_token a (bare (lone (run_in (s.0 ∷ [])).mir)) null_ptr))) (λ b o e.
      use1 𝓛 (given (Testable (block_ptr b o)) (‵ (run_boxed a s.0 (block_ptr b o) x))) (tested 𝓛 a (run_in (s.0 ∷ [])) (block_ptr b o) x) $ learn t (λ u. one b o x s.0 s.1 e refl u)))

  -- a `Loose` at any pointer
  pub loose_in_at : K → (R : RattleType) (p : Ptr) (h : Val) (a : Global) (x : R.Denot)
      → Step K 𝓛 (‵ ((loose.the_row R Z ghosts).own_val (record { at = p; alloc = a; value = x }) (both (ptr_val p) h ∷ [])) ∷ Γ) G (‵ (box_owns_of_ownership (ghosts.dealloc_token a) R p x) ∷ ‵ (Z.own_val a (h ∷ [])) ∷ Γ) G
  loose_in_at t R p h a x = step (λ s. let v : Val = both (ptr_val p) h in
      nothing t $ move t (2 ∷ 0 ∷ []) $ fjoin t $ feq_i t (List Val) (ptr_val p ∷ []) (ptr_val p ∷ []) refl $ fjoin t $ feq_i t (List Val) (v ∷ []) (v ∷ []) refl $ fjoin t $
      fpack t (Valss (RawPtr ∷ Z ∷ [])) (within (shape (loose.the_type R Z ghosts)) (p, (a, tt)) (v ∷ [])) (ptr_val p ∷ [], (h ∷ [], tt)) $ fjoin t $ s)

  pub handle_in : K → (r p : Ptr) (h : Val) (a : Global) (v : Option Run)
      → Step K 𝓛 (‵ (handle.the_row.own_val (record { run = r; script = p; alloc = a; value = v }) (three (ptr_val r) (ptr_val p) h ∷ [])) ∷ Γ) G (‵ (session_owns a r p v) ∷ ‵ (Z.own_val a (h ∷ [])) ∷ Γ) G
  handle_in t r p h a v = step (λ s. let w : Val = three (ptr_val r) (ptr_val p) h in let d : handle.the_row.Denot = record { run = r; script = p; alloc = a; value = v } in
      nothing t $ move t (2 ∷ 0 ∷ []) $ fjoin t $ feq_i t (List Val) (ptr_val p ∷ []) (ptr_val p ∷ []) refl $ fjoin t $ feq_i t (List Val) (ptr_val r ∷ []) (ptr_val r ∷ []) refl $ fjoin t $ feq_i t (List Val) (w ∷ []) (w ∷ []) refl $ fjoin t $
      fpack t (Valss (RawPtr ∷ RawPtr ∷ Z ∷ [])) (within (shape handle.the_type) (to handle.the_type d) (w ∷ [])) (ptr_val r ∷ [], (ptr_val p ∷ [], (h ∷ [], tt))) $ fjoin t $ s)

  pub none_owned : K → (a : Global) (p : Ptr) → Step K 𝓛 (‵ (session_owns a null_ptr p None) ∷ Γ) G Γ G
  unfolding session_owns
  none_owned t a p = step (λ s. feq_i t Ptr null_ptr null_ptr refl $ s)

  pub some_owned : K → (a : Global) (r p : Ptr) (x : Run) (ν : ℕ) (y : script.the_row.Denot)
      → Step K 𝓛 (‵ (session_owns a r p (Some x)) ∷ Γ) G (‵ (run_boxed a ν r x) ∷ ‵ (flft (ν ∷ []) full_share) ∷ ‵ (flent (ν ∷ []) (script_boxed a p y)) ∷ Γ) G
  unfolding session_owns
  some_owned t a r p x ν y = step (λ s. move t (1 ∷ 0 ∷ 2 ∷ []) $ fjoin3 t $ fpack t (ℕ × script.the_row.Denot) (open_at a r p x) (ν, y) $ s)

-- a `Result` taken apart
module _ (X E : RattleType) {M : Type 1} {𝓤 : Ura M} {𝓛 : Logic 𝓤} {K : Type 0} {Γ : List (Item 𝓤)} {G : Goal 𝓤 𝓛.H} where
  pub result_out : K → (r : Result X.Denot E.Denot) (us : List Val)
      → ((x : X.Denot) (vs : List Val) → r ≡ Ok x → us ≡ live 0 (of_list (vs ++ [])) ∷ [] → Seq K 𝓛 (‵ (X.own_val x vs) ∷ Γ) G)
      → ((e : E.Denot) (vs : List Val) → r ≡ Err e → us ≡ live 1 (of_list (vs ++ [])) ∷ [] → Seq K 𝓛 (‵ (E.own_val e vs) ∷ Γ) G)
      → Seq K 𝓛 (‵ ((RS.the_row X E).own_val r us) ∷ Γ) G
  result_out t (Ok x) us ok err = fpick t (λ ws. fsplit t $ feq_l t (λ e₁. fpick t (λ vss. fsplit t $ feq_l t (λ e₂. fsplit t $ move t (1 ∷ []) $ drop t $
      ok x vss.0 refl (e₁ ∙ ap (λ (vs : List Val). live 0 (of_list vs) ∷ []) e₂)))))
  result_out t (Err e) us ok err = fpick t (λ ws. fsplit t $ feq_l t (λ e₁. fpick t (λ vss. fsplit t $ feq_l t (λ e₂. fsplit t $ move t (1 ∷ []) $ drop t $
      err e vss.0 refl (e₁ ∙ ap (λ (vs : List Val). live 1 (of_list vs) ∷ []) e₂)))))

-- the one machine value of a value
module _ {M : Type 1} {𝓤 : Ura M} {𝓛 : Logic 𝓤} {K : Type 0} {Γ : List (Item 𝓤)} {G : Goal 𝓤 𝓛.H} where
  pub word_of : K → (Q : RattleType) → Q.mir ≡ layout Q ∷ [] → Lawful 𝓛 Q → (y : Q.Denot) (us : List Val) → ((v : Val) → us ≡ v ∷ [] → Good (layout Q) v → Seq K 𝓛 (‵ (Q.own_val y (v ∷ [])) ∷ Γ) G) → Seq K 𝓛 (‵ (Q.own_val y us) ∷ Γ) G
  word_of t Q eQ LQ y us k = peeks t Q (Is Q) (shows 𝓛 Q) y us (λ j. let g = one (layout Q) us (subst (λ (ρs : List mir.Syntax.Ty). Typed ρs us) eQ (LQ.typed y us j)) in rewrite t 0 (λ (ws : List Val). ‵ (Q.own_val y ws)) g.1 refl $ k g.0 g.1 g.2)
