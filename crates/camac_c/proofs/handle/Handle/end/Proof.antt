-- `end` tests the pointer, has the run dropped for its lifetime, ends that, and has the script's box back.
use Rattle.std.proofs.Common.{◌≡◌, List, [], ◌∷◌, ◌++◌, refl, sym, ap, subst, lit<}
use mir.Val.{Val, vptr, vcons, vnil}
use base.Fraction.{full_share}
use base.Logic.{SProp, ent, emp, id⊢}
use base.Fml.{ftrue, flft}
use prog.Wp.{WpFn}
use types.Kit.{‵, raw, ◌⊛◌, some, later, ◌$◌, ◌∵◌, !, qed, by, at_ret, move, keep, split, join, fsplit, fjoin, pick, await, suffices, use0, use1, use2}
use types.Run.{stop, fld, lit, of_opd, bin, no_more, and_then, first, branches, exec, returns, enter}
use types.ByLocal.{alloc_all, pass_all, free_all, look_at, get, get_in, sets, sets_last, lands_as, env}
use types.Part.{agg, sub, whole}
use types.Match.{live}
use types.Tokens.{lft_end, lent_back}
use contract.Monad.{fact, fact_i}
use contract.Running.{tables}
use denote.Exit.{yes}
use denote.RattleType.{RattleType, owns}
use denote.Signature.{types_at, type_at, plain}
use denote.RawPtr.{Ptr, block_ptr, null_ptr, ptr_val, tests_null}
use denote.Steps.{nothing, only}
use denote.Param.{layout}
use denote.Triple.Clauses.{Lasts, lasts}
use denote.Triple.Spec.{triple_of}
use denote.Triple.Call.{calls_at}
use denote.Triple.Walked.{Stays, stay_dropped, walk_of, Goes-dropped}
use Rattle.core.proofs.alloc.Calls.{handle_tells}
use Rattle.core.proofs.alloc.Shapes.{after}
use Rattle.core.proofs.atomic.Steps.{Ptr-Good, fm}
use Rattle.core.proofs.cell.Inside.{Good}
use Rattle.core.proofs.option.Made.{Some-of, none_of}
use Rattle.std.proofs.raw_atomic.Walks.{proved_at, leaves}
use Rattle.std.specs.Prelude.{None, Some}
use Rattle.std_alloc.proofs.ResultValues.{and_tt}
use Rattle.std.specs.contracts.impls.GlobalAllocator.TheImpl.{ghosts}
use Rattle.std.specs.contracts.alloc.Global as heap
use Rattle.camac_c.specs.Owned.{run_in}
use Rattle.camac_rules.specs.contracts.checked.Checked as script
use Rattle.camac_c.specs.contracts.handle.Handle as handle
use Rattle.camac_c.specs.contracts.loose.Loose as loose
use Rattle.camac_c.proofs.Taken.{al, three, three_good, both_good, handle_out, either_owned, loose_in_at, both}
use Rattle.camac_c.specs.contracts.session.finish as callee
use Rattle.camac_c.proofs.session.finish.Met.{met}
use Rattle.camac_c.specs.contracts.handle.Handle.end.{ended, clauses}
use Rattle.camac_c.specs.contracts.handle.Handle.end.Key.{name as #self}
use Rattle.camac_c.proofs.handle.Handle.end.Statement.{statement}
use Rattle.camac_c.proofs.handle.Handle.end.Code as code

abbrev Z : RattleType
Z = heap.the_row

abbrev Lr : RattleType
Lr = loose.the_row script.the_row Z ghosts

pub end_spec : {M : Type 1} → statement M
end_spec 𝓤 𝓛 𝓜 𝓡 wired =
    let H = 𝓛.H in let 𝓣 = tables 𝓤 H 𝓜 𝓡 𝓡.env in let En = ended in let c = clauses 𝓛 𝓜.mem 𝓡.returns in let fn = code.function in
    let hs : Stays En.signature.params En.kept = (stay_dropped (plain (λ _. handle.the_row)) yes, tt) in
    proved_at 𝓛 En hs c 𝓜 𝓡 (Goes-dropped 𝓛 0 (plain (λ _. handle.the_row)) yes (λ κs x f. refl), tt) #self fn (code.unfolded 𝓤 H 𝓜 𝓡 wired) (λ z are.
    let κs = z.0.0 in let v = z.0.3.0 in let a = v.alloc in let vs = z.0.4.0 in let Post : Val → SProp 𝓤 = (walk_of 𝓛 En hs c).post z in let Run : List Val → SProp 𝓤 = λ ws. WpFn 𝓤 H 𝓣.C 𝓣.Λ fn ws Post in
    let Out : RattleType = type_at En.signature.result κs in let k = triple_of 𝓛 callee.signature (callee.spec 𝓛 𝓜.mem 𝓡.returns) in
    qed 𝓛 ((‵ ftrue ⊛ ‵ (owns (types_at En.signature.params κs) z.0.3 z.0.4)) ∷ raw ((c κs z.0.3).requires z.1) ∷ []) ∵ split ! $ move ! (1 ∷ []) $ fsplit ! $ handle_out ! v vs (λ h ws gh. either_owned ! a v.run v.script v.value
    (λ is empty. let w : Val = three (ptr_val null_ptr) (ptr_val v.script) h in let v₀ : Val = live 0 vnil in
    suffices ! (Run (w ∷ [])) (subst (λ (us : List Val). ent 𝓤 (Run (w ∷ [])) (Run (us ++ []))) (sym (subst (λ (p : Ptr). vs ≡ three (ptr_val p) (ptr_val v.script) h ∷ []) is ws)) (id⊢ 𝓤 (Run (w ∷ [])))) $
    enter ! 𝓣.C 𝓣.Λ fn (w ∷ []) Post $ alloc_all ! (λ l. pass_all ! refl (three_good null_ptr v.script h gh, tt) $ let Ev = env fn.locals l in
    sets ! (of_opd ! (get_in ! (fld ! refl (stop !)) (sub ! 0 refl (whole !)))) refl (Ptr-Good null_ptr) $ sets ! (of_opd ! (get_in ! (fld ! refl (stop !)) (sub ! 1 refl (whole !)))) refl (Ptr-Good v.script) $ sets ! (of_opd ! (get_in ! (fld ! refl (stop !)) (sub ! 2 refl (whole !)))) refl gh $
    sets ! (bin ! (get ! refl) (lit ! tt) tt) refl (tt, tt) $ first ! $ branches ! (get ! refl)
    (λ _. sets_last ! (agg ! (and_then ! (lit ! tt) (no_more !))) refl (tt, (record { fits = lit< tt }, tt)) $ exec ! 𝓣.C 𝓣.Λ Ev (after 5 fn.body) (at_ret Ev Post) $ sets ! (of_opd ! (get ! refl)) refl (tt, (record { fits = lit< tt }, tt)) $
    use0 𝓛 (‵ (Out.own_val None (v₀ ∷ []))) (none_of 𝓛 Lr) $
    use0 𝓛 (raw (fact 𝓤 (v.value ≡ None))) (fact_i 𝓤 (v.value ≡ None) (emp 𝓤) empty) $ nothing ! $ nothing ! $ fjoin ! $
    returns ! (look_at ! 0 refl) $ free_all ! refl $ keep ! (4 ∷ 0 ∷ 2 ∷ 1 ∷ []) $ by ! (leaves 𝓛 En hs c z v₀ None (tt, tt) (tt, tt))) (λ wrong. absurd wrong)))
    (λ b o x ν y is full t. let w : Val = three (vptr b o) (ptr_val v.script) h in let w₁ : Val = both (vptr b o) h in let d₁ : (loose.the_row (run_in (ν ∷ [])) Z ghosts).Denot = record { at = block_ptr b o; alloc = a; value = x } in
    let g : k.Ghost = (((ν ∷ [], tt), (full_share, tt), tt, (d₁, tt), (w₁ ∷ [], tt)), tt) in
    suffices ! (Run (w ∷ [])) (subst (λ (us : List Val). ent 𝓤 (Run (w ∷ [])) (Run (us ++ []))) (sym (subst (λ (p : Ptr). vs ≡ three (ptr_val p) (ptr_val v.script) h ∷ []) is ws)) (id⊢ 𝓤 (Run (w ∷ [])))) $
    enter ! 𝓣.C 𝓣.Λ fn (w ∷ []) Post $ alloc_all ! (λ l. pass_all ! refl (three_good (block_ptr b o) v.script h gh, tt) $ let Ev = env fn.locals l in
    sets ! (of_opd ! (get_in ! (fld ! refl (stop !)) (sub ! 0 refl (whole !)))) refl (tt, tt) $ sets ! (of_opd ! (get_in ! (fld ! refl (stop !)) (sub ! 1 refl (whole !)))) refl (Ptr-Good v.script) $ sets ! (of_opd ! (get_in ! (fld ! refl (stop !)) (sub ! 2 refl (whole !)))) refl gh $
    sets ! (bin ! (get ! refl) (lit ! tt) (tests_null (block_ptr b o) t)) refl (tt, tt) $ first ! $ branches ! (get ! refl) (λ wrong. absurd wrong) (λ _.
    sets ! (of_opd ! (get ! refl)) refl (tt, tt) $ sets ! (agg ! (and_then ! (get ! refl) (and_then ! (get ! refl) (no_more !)))) refl (both_good (block_ptr b o) h gh) $
    -- [the run's box; the lifetime; the script's box for later; the handle of the heap; nothing; nothing; the requires]
    move ! (0 ∷ 3 ∷ []) $ loose_in_at ! (run_in (ν ∷ [])) (block_ptr b o) h a x $
    nothing ! $ move ! (1 ∷ 0 ∷ []) $ join ! $ nothing ! $ move ! (2 ∷ 0 ∷ []) $ join ! $ join ! $ nothing ! $ move ! (1 ∷ 0 ∷ []) $ use2 𝓛 (raw (k.pre g)) (id⊢ 𝓤 _) $
    calls_at ! (fm 𝓛 𝓜 𝓡) k (met 𝓤 𝓛 𝓜 𝓡 (code.calls-camac_c::session::finish 𝓡.env wired)) g (and_then ! (get ! refl) (no_more !)) (λ u.
    use1 𝓛 (later (some (λ (r : Z.Denot). ((‵ (flft (ν ∷ []) full_share) ⊛ ‵ ftrue) ⊛ ‵ (Z.own_val r (u ∷ []))) ⊛ some (λ (ls : Lasts callee.ended g.0.0 g.0.3). ‵ (lasts callee.ended g.0.0 g.0.3 ls) ⊛ raw (fact 𝓤 (r ≡ a)))))) (id⊢ 𝓤 (k.post g u)) $
    await ! tt $ pick ! (λ r. split ! $ split ! $ split ! $ lft_end ! tt $ move ! (0 ∷ 4 ∷ []) $ lent_back ! tt $ move ! (2 ∷ []) $ handle_tells al ! r (u ∷ []) (λ h₂ eh gh₂. lands_as ! (ap only eh) refl gh₂ $
    let w₂ : Val = both (ptr_val v.script) h₂ in let typed = both_good v.script h₂ gh₂ in let v₁ : Val = live 1 (vcons w₂ vnil) in let d₂ : Lr.Denot = record { at = v.script; alloc = r; value = y } in
    let good : Good (layout Out) v₁ = (and_tt _ typed.0, (record { fits = lit< tt }, (typed.1, tt))) in
    sets ! (of_opd ! (get ! refl)) refl (Ptr-Good v.script) $ sets ! (agg ! (and_then ! (get ! refl) (and_then ! (get ! refl) (no_more !)))) refl typed $ sets_last ! (agg ! (and_then ! (lit ! tt) (and_then ! (get ! refl) (no_more !)))) refl good $
    exec ! 𝓣.C 𝓣.Λ Ev (after 5 fn.body) (at_ret Ev Post) $ sets ! (of_opd ! (get ! refl)) refl good $ move ! (1 ∷ 0 ∷ []) $ loose_in_at ! script.the_row v.script h₂ r y $
    use1 𝓛 (‵ (Out.own_val (Some d₂) (v₁ ∷ []))) (Some-of 𝓛 Lr d₂ w₂) $
    use0 𝓛 (raw (fact 𝓤 (Unit {0}))) (fact_i 𝓤 (Unit {0}) (emp 𝓤) tt) $ nothing ! $ nothing ! $ fjoin ! $
    returns ! (look_at ! 0 refl) $ free_all ! refl $ keep ! (3 ∷ 0 ∷ 2 ∷ 1 ∷ []) $ by ! (leaves 𝓛 En hs c z v₁ (Some d₂) (tt, tt) (tt, tt))))))))))
