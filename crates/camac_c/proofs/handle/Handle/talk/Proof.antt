-- `talk` tests the pointer, and has the run stepped for its lifetime. What is told and the slice are given up: to the step, or at the end as they are.
use Rattle.std.proofs.Common.{◌≡◌, ◌<◌, ◌^◌, length, ℕ, List, [], ◌∷◌, ◌++◌, refl, sym, ap, subst}
use lib.Dec.{T}
use mir.Syntax.{named, ty_ref, ty_int, mut, w8}
use mir.Val.{Val, vptr, has_ty, WT}
use base.Fraction.{full_share}
use base.Logic.{SProp, ent, emp, id⊢}
use base.Fml.{ftrue, flft, fres}
use prog.Wp.{WpFn}
use types.Kit.{‵, raw, ◌⊛◌, some, later, ◌$◌, ◌∵◌, !, qed, by, at_ret, move, keep, drop, split, join, fsplit, fsplit3, fjoin, pick, await, suffices, feq_l, rewrite, use0, use1, use2}
use types.Run.{stop, fld, hop, from, addr, lit, of_opd, bin, no_more, and_then, first, branches, exec, returns, enter}
use types.ByLocal.{alloc_all, pass_all, free_all, look_at, look_in_at, get, get_in, sets, sets_last, lands_as, env}
use types.Part.{agg, sub, whole}
use contract.Monad.{fact, fact_i}
use contract.Running.{tables}
use denote.Exit.{yes}
use denote.RattleType.{RattleType, owns}
use denote.Signature.{types_at, plain}
use denote.Builtin.{u8}
use denote.Ref.{MutRef}
use denote.Slice.{MutSlice, slice_ty, slice_val, finally, res-finally, coded_holeys, heres}
use denote.RawPtr.{Ptr, block_ptr, null_ptr, ptr_val, tests_null}
use denote.Steps.{nothing, heard, only}
use denote.Triple.Clauses.{Lasts, lasts}
use denote.Triple.Spec.{triple_of}
use denote.Triple.Call.{calls_at}
use denote.Triple.Walked.{Stays, stay_dropped, gave_ref, gave_slice, walk_of, Goes-dropped, Goes-gave_ref, Goes-gave_slice}
use Rattle.core.proofs.alloc.Shapes.{after}
use Rattle.core.proofs.atomic.Steps.{Ptr-Good, fm}
use Rattle.std.proofs.raw_atomic.Walks.{proved_at, leaves}
use Rattle.std.specs.Prelude.{Option, None, Some}
use Rattle.std.specs.contracts.impls.GlobalAllocator.TheImpl.{ghosts}
use Rattle.std.specs.contracts.alloc.Global as heap
use Rattle.std.proofs.alloc.Global.TheLaws as heap_laws
use Rattle.camac_c.specs.declared.session.Session.{Session as Running}
use Rattle.camac_c.specs.Owned.{run_in}
use Rattle.camac_c.specs.Talk.{Steps, Talks}
use Rattle.camac_c.specs.contracts.handle.Handle as handle
use Rattle.camac_c.specs.contracts.loose.Loose as loose
use Rattle.camac_c.specs.contracts.plain.SessionAsk as ask_type
use Rattle.camac_c.proofs.plain.SessionAsk.TheLaws as ask_laws
use Rattle.camac_c.specs.contracts.plain.Told as told_type
use Rattle.camac_c.proofs.Taken.{three, three_good, both_good, handle_out, handle_in, either_owned, none_owned, some_owned, loose_in_at, word_of, both, loose_out}
use Rattle.camac_c.specs.contracts.session.step as callee
use Rattle.camac_c.proofs.session.step.Met.{met}
use Rattle.camac_c.specs.contracts.handle.Handle.talk.{ended, clauses}
use Rattle.camac_c.specs.contracts.handle.Handle.talk.Key.{name as #self}
use Rattle.camac_c.proofs.handle.Handle.talk.Statement.{statement}
use Rattle.camac_c.proofs.handle.Handle.talk.Code as code

abbrev Z : RattleType
Z = heap.the_row

abbrev Hr : RattleType
Hr = handle.the_row

abbrev A : RattleType
A = ask_type.the_row

abbrev B : RattleType
B = told_type.the_row

abbrev Place : List ℕ → RattleType
Place κ = MutRef (named 0) κ B

abbrev Slice : List ℕ → RattleType
Slice κ = MutSlice (named 1) κ u8

pub talk_spec : {M : Type 1} → statement M
talk_spec 𝓤 𝓛 𝓜 𝓡 wired =
    let H = 𝓛.H in let 𝓣 = tables 𝓤 H 𝓜 𝓡 𝓡.env in let En = ended in let c = clauses 𝓛 𝓜.mem 𝓡.returns in let fn = code.function in
    let hs : Stays En.signature.params En.kept = (stay_dropped (plain (λ _. Hr)) yes, (stay_dropped (plain (λ _. A)) yes, (gave_ref (0 ∷ []) tt (plain (λ _. B)), (gave_slice (1 ∷ []) tt (plain (λ _. u8)), tt)))) in
    proved_at 𝓛 En hs c 𝓜 𝓡 (Goes-dropped 𝓛 2 (plain (λ _. Hr)) yes (λ κs x f. refl), (Goes-dropped 𝓛 2 (plain (λ _. A)) yes (λ κs x f. refl), (Goes-gave_ref 𝓛 2 0 tt (plain (λ _. B)), (Goes-gave_slice 𝓛 2 1 tt (plain (λ _. u8)), tt)))) #self fn (code.unfolded 𝓤 H 𝓜 𝓡 wired) (λ z are.
    let κs = z.0.0 in let κ₀ = z.0.0.0 in let κ = z.0.0.1.0 in let q₀ = z.0.1.0 in let q = z.0.1.1.0 in let v = z.0.3.0 in let ask = z.0.3.1.0 in let told = z.0.3.1.1.0 in let words = z.0.3.1.1.1.0 in let a = v.alloc in let vs = z.0.4.0 in
    let Post : Val → SProp 𝓤 = (walk_of 𝓛 En hs c).post z in let Run : List Val → SProp 𝓤 = λ ws. WpFn 𝓤 H 𝓣.C 𝓣.Λ fn ws Post in let k = triple_of 𝓛 callee.signature (callee.spec 𝓛 𝓜.mem 𝓡.returns) in
    let nT : Val = vptr told.ref_ptr.0 told.ref_ptr.1 in let eT : z.0.4.1.1.0 ≡ nT ∷ [] = are.1.1.0.0 in
    let nW : Val = slice_val words.ref_ptr (length words.now) in let eW : z.0.4.1.1.1.0 ≡ nW ∷ [] = are.1.1.1.0.0.0 in let count : length words.now < 2 ^ 64 = are.1.1.1.0.0.1.0 in
    let gW : T (has_ty (slice_ty (ty_ref (named 1) mut (ty_int w8))) nW) × WT nW = (tt, (tt, (record { fits = count }, tt))) in
    qed 𝓛 (((‵ (flft κ₀ q₀) ⊛ ‵ (flft κ q) ⊛ ‵ ftrue) ⊛ ‵ (owns (types_at En.signature.params κs) z.0.3 z.0.4)) ∷ raw ((c κs z.0.3).requires z.1) ∷ []) ∵ split ! $ move ! (1 ∷ []) $ fsplit ! $ move ! (1 ∷ []) $ fsplit3 ! $
    word_of ! A refl (ask_laws.the_row_laws.lawful 𝓛) ask z.0.4.1.0 (λ nA eA gA. move ! (2 ∷ []) $ fsplit ! $
    rewrite ! 0 (λ (us : List Val). ‵ ((Slice κ).own_val words us)) eW refl $ rewrite ! 3 (λ (us : List Val). ‵ ((Place κ₀).own_val told us)) eT refl $ move ! (4 ∷ []) $ handle_out ! v vs (λ h ws gh. either_owned ! a v.run v.script v.value
    -- [the handle of the heap; the slice; nothing; what is asked; what is told; the lifetimes; the requires]
    (λ is empty. let w : Val = three (ptr_val null_ptr) (ptr_val v.script) h in let typed = three_good null_ptr v.script h gh in let d : Hr.Denot = record { run = null_ptr; script = v.script; alloc = a; value = None } in
    let ws' : vs ≡ w ∷ [] = subst (λ (p : Ptr). vs ≡ three (ptr_val p) (ptr_val v.script) h ∷ []) is ws in
    suffices ! (Run (w ∷ nA ∷ nT ∷ nW ∷ [])) (subst (λ (us : List Val). ent 𝓤 (Run (w ∷ nA ∷ nT ∷ nW ∷ [])) (Run us)) (sym (λ i. ws' i ++ (eA i ++ (eT i ++ (eW i ++ []))))) (id⊢ 𝓤 (Run (w ∷ nA ∷ nT ∷ nW ∷ [])))) $
    enter ! 𝓣.C 𝓣.Λ fn (w ∷ nA ∷ nT ∷ nW ∷ []) Post $ alloc_all ! (λ l. pass_all ! refl (typed, (gA, ((tt, tt), (gW, tt)))) $ let Ev = env fn.locals l in
    sets ! (of_opd ! (get_in ! (fld ! refl (stop !)) (sub ! 0 refl (whole !)))) refl (Ptr-Good null_ptr) $ sets ! (of_opd ! (get_in ! (fld ! refl (stop !)) (sub ! 1 refl (whole !)))) refl (Ptr-Good v.script) $ sets ! (of_opd ! (get_in ! (fld ! refl (stop !)) (sub ! 2 refl (whole !)))) refl gh $
    sets ! (bin ! (get ! refl) (lit ! tt) tt) refl (tt, tt) $ first ! $ branches ! (get ! refl)
    (λ _. sets_last ! (agg ! (and_then ! (get ! refl) (and_then ! (get ! refl) (and_then ! (get ! refl) (no_more !))))) refl typed $
    exec ! 𝓣.C 𝓣.Λ Ev (after 5 fn.body) (at_ret Ev Post) $ sets ! (of_opd ! (get ! refl)) refl typed $
    none_owned ! a v.script $ handle_in ! null_ptr v.script h a None $
    use0 𝓛 (raw (fact 𝓤 (Talks v.value ask told.now None words.now words.now told.now))) (fact_i 𝓤 (Talks v.value ask told.now None words.now words.now told.now) (emp 𝓤) (subst (λ (o : Option Running). Talks o ask told.now None words.now words.now told.now) (sym empty) (refl, refl, refl))) $
    -- [the fact; the handle; the slice; nothing; what is asked; what is told; the lifetimes; the requires]
    move ! (2 ∷ []) $ fsplit ! $ drop ! $ fsplit ! $ use1 𝓛 (‵ (fres words.ghost_name ((coded_holeys u8).code (heres u8 words.now)))) (𝓛.names.obs-res words.ghost_name ((coded_holeys u8).code (heres u8 words.now))) $
    use1 𝓛 (‵ (finally u8 words.ghost_name words.now)) (res-finally 𝓛 (named 1) κ u8 words.ghost_name words.now) $ fjoin ! $ nothing ! $ move ! (1 ∷ 0 ∷ []) $ fjoin ! $
    move ! (5 ∷ []) $ fsplit ! $ drop ! $ fsplit ! $ use1 𝓛 (‵ (fres told.ghost_name (B.coded.code told.now))) (𝓛.names.obs-res told.ghost_name (B.coded.code told.now)) $ fjoin ! $ fjoin ! $
    nothing ! $ fjoin ! $ nothing ! $ fjoin ! $ move ! (5 ∷ []) $
    returns ! (look_at ! 0 refl) $ free_all ! refl $ keep ! (0 ∷ 1 ∷ 3 ∷ 2 ∷ []) $ by ! (leaves 𝓛 En hs c z w d (tt, (tt, (told.now, (words.now, tt)))) (tt, (tt, (tt, (refl, tt)))))) (λ wrong. absurd wrong)))
    -- [the run's box; the run's lifetime; the script's box for later; the handle of the heap; the slice; nothing; what is asked; what is told; the lifetimes; the requires]
    (λ b o x ν y is full t. let w : Val = three (vptr b o) (ptr_val v.script) h in let w₁ : Val = both (vptr b o) h in let Lr : RattleType = loose.the_row (run_in (ν ∷ [])) Z ghosts in let d₁ : Lr.Denot = record { at = block_ptr b o; alloc = a; value = x } in
    let g : k.Ghost = (((ν ∷ [], (κ₀, (κ, tt))), (full_share, (q₀, (q, tt))), tt, (d₁, (ask, (told, (words, tt)))), (w₁ ∷ [], (nA ∷ [], (nT ∷ [], (nW ∷ [], tt))))), tt) in
    let ws' : vs ≡ w ∷ [] = subst (λ (p : Ptr). vs ≡ three (ptr_val p) (ptr_val v.script) h ∷ []) is ws in
    suffices ! (Run (w ∷ nA ∷ nT ∷ nW ∷ [])) (subst (λ (us : List Val). ent 𝓤 (Run (w ∷ nA ∷ nT ∷ nW ∷ [])) (Run us)) (sym (λ i. ws' i ++ (eA i ++ (eT i ++ (eW i ++ []))))) (id⊢ 𝓤 (Run (w ∷ nA ∷ nT ∷ nW ∷ [])))) $
    enter ! 𝓣.C 𝓣.Λ fn (w ∷ nA ∷ nT ∷ nW ∷ []) Post $ alloc_all ! (λ l. pass_all ! refl (three_good (block_ptr b o) v.script h gh, (gA, ((tt, tt), (gW, tt)))) $ let Ev = env fn.locals l in
    sets ! (of_opd ! (get_in ! (fld ! refl (stop !)) (sub ! 0 refl (whole !)))) refl (tt, tt) $ sets ! (of_opd ! (get_in ! (fld ! refl (stop !)) (sub ! 1 refl (whole !)))) refl (Ptr-Good v.script) $ sets ! (of_opd ! (get_in ! (fld ! refl (stop !)) (sub ! 2 refl (whole !)))) refl gh $
    sets ! (bin ! (get ! refl) (lit ! tt) (tests_null (block_ptr b o) t)) refl (tt, tt) $ first ! $ branches ! (get ! refl) (λ wrong. absurd wrong) (λ _.
    sets ! (of_opd ! (get ! refl)) refl (tt, tt) $ sets ! (agg ! (and_then ! (get ! refl) (and_then ! (get ! refl) (no_more !)))) refl (both_good (block_ptr b o) h gh) $
    sets ! (addr ! (from ! (hop ! (look_at ! 3 refl) (stop !)))) refl (tt, tt) $
    sets ! (addr ! (from ! (fld ! refl (hop ! (look_in_at ! 4 (sub ! 0 refl (whole !))) (stop !))))) refl (tt, tt) $ sets ! (agg ! (and_then ! (get ! refl) (and_then ! (get_in ! (fld ! refl (stop !)) (sub ! 1 refl (whole !))) (no_more !)))) refl gW $
    move ! (0 ∷ 3 ∷ []) $ loose_in_at ! (run_in (ν ∷ [])) (block_ptr b o) h a x $
    nothing ! $ move ! (4 ∷ 0 ∷ []) $ join ! $ move ! (6 ∷ 0 ∷ []) $ join ! $ move ! (5 ∷ 0 ∷ []) $ join ! $ move ! (1 ∷ 0 ∷ []) $ join ! $
    -- [what is passed; the run's lifetime; the script's box for later; nothing; the lifetimes; the requires]
    move ! (1 ∷ 4 ∷ []) $ join ! $ join ! $ nothing ! $ move ! (1 ∷ 0 ∷ []) $ use2 𝓛 (raw (k.pre g)) (id⊢ 𝓤 _) $
    calls_at ! (fm 𝓛 𝓜 𝓡) k (met 𝓤 𝓛 𝓜 𝓡 (code.calls-camac_c::session::step 𝓡.env wired)) g (and_then ! (get ! refl) (and_then ! (get ! refl) (and_then ! (get ! refl) (and_then ! (get ! refl) (no_more !))))) (λ u.
    use1 𝓛 (later (some (λ (r : Lr.Denot). ((‵ (flft (ν ∷ []) full_share) ⊛ ‵ (flft κ₀ q₀) ⊛ ‵ (flft κ q) ⊛ ‵ ftrue) ⊛ ‵ (Lr.own_val r (u ∷ []))) ⊛ some (λ (ls : Lasts callee.ended g.0.0 g.0.3). ‵ (lasts callee.ended g.0.0 g.0.3 ls) ⊛ raw (fact 𝓤 (Steps x ask r.value words.now ls.1.1.1.0 ls.1.1.0)))))) (id⊢ 𝓤 (k.post g u)) $
    await ! tt $ pick ! (λ r. split ! $ move ! (1 ∷ []) $ pick ! (λ ls. split ! $ move ! (1 ∷ []) $ heard ! (Steps x ask r.value words.now ls.1.1.1.0 ls.1.1.0) (λ stepped.
    fsplit ! $ drop ! $ fsplit ! $ drop ! $ fsplit ! $ move ! (1 ∷ []) $ fsplit ! $ fsplit ! $ fsplit ! $ move ! (1 ∷ []) $ feq_l ! (λ same. fjoin ! $ fjoin ! $ move ! (1 ∷ 0 ∷ []) $ fjoin ! $
    -- [what is told and the slice, given up; the tokens and the result; the script's box for later; nothing; the requires]
    move ! (1 ∷ []) $ split ! $ split ! $ move ! (2 ∷ []) $
    loose_out (run_in (ν ∷ [])) Z heap_laws.the_row_laws ghosts ! r (u ∷ []) (λ b₂ o₂ h₂ e₂ ws₂ gh₂.
    -- [the run's box; the handle of the heap; the run's lifetime; the others; what is told and the slice, given up; the script's box for later; nothing; the requires]
    let w₂ : Val = three (vptr b₂ o₂) (ptr_val v.script) h₂ in let typed = three_good (block_ptr b₂ o₂) v.script h₂ gh₂ in
    let d₂ : Hr.Denot = record { run = block_ptr b₂ o₂; script = v.script; alloc = r.alloc; value = Some r.value } in
    lands_as ! (ap only ws₂) refl (both_good (block_ptr b₂ o₂) h₂ gh₂) $
    sets ! (of_opd ! (get_in ! (fld ! refl (stop !)) (sub ! 0 refl (whole !)))) refl (tt, tt) $ sets ! (of_opd ! (get_in ! (fld ! refl (stop !)) (sub ! 1 refl (whole !)))) refl gh₂ $ sets ! (of_opd ! (get ! refl)) refl (tt, tt) $
    sets_last ! (agg ! (and_then ! (get ! refl) (and_then ! (get ! refl) (and_then ! (get ! refl) (no_more !))))) refl typed $
    exec ! 𝓣.C 𝓣.Λ Ev (after 5 fn.body) (at_ret Ev Post) $ sets ! (of_opd ! (get ! refl)) refl typed $
    move ! (0 ∷ 2 ∷ 5 ∷ []) $ some_owned ! r.alloc (block_ptr b₂ o₂) v.script r.value ν y $ handle_in ! (block_ptr b₂ o₂) v.script h₂ r.alloc (Some r.value) $
    use0 𝓛 (raw (fact 𝓤 (Talks v.value ask told.now (Some r.value) words.now ls.1.1.1.0 ls.1.1.0))) (fact_i 𝓤 (Talks v.value ask told.now (Some r.value) words.now ls.1.1.1.0 ls.1.1.0) (emp 𝓤) (subst (λ (o' : Option Running). Talks o' ask told.now (Some r.value) words.now ls.1.1.1.0 ls.1.1.0) (sym full) stepped)) $
    -- [the fact; the handle; the lifetimes; what is told and the slice, given up; ..]
    move ! (3 ∷ []) $ nothing ! $ fjoin ! $ nothing ! $ fjoin ! $
    returns ! (look_at ! 0 refl) $ free_all ! refl $ keep ! (3 ∷ 0 ∷ 2 ∷ 1 ∷ []) $ by ! (leaves 𝓛 En hs c z w₂ d₂ (tt, (tt, (ls.1.1.0, (ls.1.1.1.0, tt)))) (tt, (tt, (tt, (same, tt)))))))))))))))))
