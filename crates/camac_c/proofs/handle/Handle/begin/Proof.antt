-- `begin` makes a lifetime, lends the script for it, has the run started, and keeps the lifetime with it. Where the run is not started it ends the lifetime, and gives the script back.
use Rattle.std.proofs.Common.{◌≡◌, List, [], ◌∷◌, ◌++◌, refl, sym, ap, ◌∙◌, subst, lit<}
use mir.Syntax.{Body, named}
use mir.Raw.{raw as bare}
use mir.Val.{Val, vptr, vcons, vnil, of_list}
use base.Fraction.{full_share}
use base.Logic.{SProp, ent, emp, id⊢}
use base.Fml.{ftrue, flft, Incl-refl}
use prog.Wp.{WpFn, Wp, after_seq, at_return}
use types.Kit.{‵, raw, ◌⊛◌, some, later, ◌$◌, ◌∵◌, !, qed, by, at_ret, any_q, move, keep, drop, split, join, fsplit, fjoin, pick, await, suffices, feq_i, use0, use1, use2}
use types.Run.{stop, fld, addr, lit, of_opd, no_more, and_then, first, blocks, switches_on, exec, returns, enter}
use types.ByLocal.{alloc_all, pass_all, free_all, look_at, get, get_in, get_tag, through, sets, sets_last, lands_as, env}
use types.Part.{agg, sub, whole}
use types.Match.{live, vrt, in_variant}
use types.Tokens.{lft_new, lft_end, bor_new, lent_back}
use contract.BorrowLft.{meet_⊑_right}
use contract.Monad.{fact, fact_i}
use contract.Running.{tables}
use denote.Exit.{yes}
use denote.RattleType.{RattleType, owns}
use denote.Signature.{types_at, type_at, plain}
use denote.Memory.{lone}
use denote.Opens.{hide}
use denote.Ref.{ShrRef}
use denote.RawPtr.{Ptr, block_ptr, lies_at}
use denote.Steps.{nothing, heard, only}
use denote.Param.{layout}
use denote.Struct.Lending.{lent_at, Lends-first, Lends-lies}
use denote.Triple.Clauses.{Lasts, lasts}
use denote.Triple.Spec.{triple_of}
use denote.Triple.Call.{calls_at}
use denote.Triple.Walked.{Stays, stay_dropped, walk_of, Goes-dropped}
use Rattle.core.specs.declared.result.Result.{Result}
use Rattle.core.specs.declared.result.Result.TheVariants.{Ok, Err}
use Rattle.core.specs.contracts.result.Result as RS
use Rattle.core.proofs.result.Made.{Ok-of, Err-of}
use Rattle.core.proofs.alloc.Calls.{handle_tells}
use Rattle.core.proofs.alloc.Shapes.{after, head, arm_body}
use Rattle.core.proofs.atomic.Steps.{fm}
use Rattle.core.proofs.cell.Inside.{Good}
use Rattle.std.proofs.raw_atomic.Walks.{proved_at, leaves}
use Rattle.std.specs.Prelude.{Some, IfOk}
use Rattle.std_alloc.proofs.ResultValues.{and_tt}
use Rattle.std.specs.contracts.impls.GlobalAllocator.TheImpl.{ghosts}
use Rattle.std.specs.contracts.alloc.Global as heap
use Rattle.std.proofs.alloc.Global.TheLaws as heap_laws
use Rattle.camac_c.specs.Owned.{run_in}
use Rattle.camac_c.specs.Talk.{StartsOn}
use Rattle.camac_rules.specs.contracts.checked.Checked as script
use Rattle.camac_rules.proofs.checked.Checked.TheLaws as script_laws
use Rattle.camac_c.specs.contracts.handle.Handle as handle
use Rattle.camac_c.specs.contracts.loose.Loose as loose
use Rattle.camac_c.proofs.Taken.{al, three, three_good, both_good, handle_in, some_owned, loose_in_at, result_out, both, loose_out}
use Rattle.camac_c.specs.contracts.session.start as callee
use Rattle.camac_c.proofs.session.start.Met.{met}
use Rattle.camac_c.specs.contracts.handle.Handle.begin.{ended, clauses}
use Rattle.camac_c.specs.contracts.handle.Handle.begin.Key.{name as #self}
use Rattle.camac_c.proofs.handle.Handle.begin.Statement.{statement}
use Rattle.camac_c.proofs.handle.Handle.begin.Code as code

abbrev Z : RattleType
Z = heap.the_row

abbrev R : RattleType
R = script.the_row

abbrev Hr : RattleType
Hr = handle.the_row

abbrev Lp : RattleType
Lp = loose.the_row R Z ghosts

pub begin_spec : {M : Type 1} → statement M
begin_spec 𝓤 𝓛 𝓜 𝓡 wired =
    let H = 𝓛.H in let 𝓣 = tables 𝓤 H 𝓜 𝓡 𝓡.env in let En = ended in let c = clauses 𝓛 𝓜.mem 𝓡.returns in let fn = code.function in
    let hs : Stays En.signature.params En.kept = (stay_dropped (plain (λ _. Lp)) yes, tt) in
    proved_at 𝓛 En hs c 𝓜 𝓡 (Goes-dropped 𝓛 0 (plain (λ _. Lp)) yes (λ κs x f. refl), tt) #self fn (code.unfolded 𝓤 H 𝓜 𝓡 wired) (λ z are.
    let κs = z.0.0 in let v = z.0.3.0 in let a = v.alloc in let x = v.value in let vs = z.0.4.0 in let Post : Val → SProp 𝓤 = (walk_of 𝓛 En hs c).post z in let Run : List Val → SProp 𝓤 = λ ws. WpFn 𝓤 H 𝓣.C 𝓣.Λ fn ws Post in
    let Out : RattleType = type_at En.signature.result κs in let k = triple_of 𝓛 callee.signature (callee.spec 𝓛 𝓜.mem 𝓡.returns) in
    qed 𝓛 ((‵ ftrue ⊛ ‵ (owns (types_at En.signature.params κs) z.0.3 z.0.4)) ∷ raw ((c κs z.0.3).requires z.1) ∷ []) ∵ split ! $ move ! (1 ∷ []) $ fsplit ! $ loose_out R Z heap_laws.the_row_laws ghosts ! v vs (λ b o h at ws gh.
    let p : Ptr = block_ptr b o in let w : Val = both (vptr b o) h in
    suffices ! (Run (w ∷ [])) (subst (λ (us : List Val). ent 𝓤 (Run (w ∷ [])) (Run (us ++ []))) (sym ws) (id⊢ 𝓤 (Run (w ∷ [])))) $
    enter ! 𝓣.C 𝓣.Λ fn (w ∷ []) Post $ alloc_all ! (λ l. pass_all ! refl (both_good p h gh, tt) $ let Ev = env fn.locals l in
    sets ! (of_opd ! (get_in ! (fld ! refl (stop !)) (sub ! 0 refl (whole !)))) refl (tt, tt) $ sets ! (of_opd ! (get_in ! (fld ! refl (stop !)) (sub ! 1 refl (whole !)))) refl gh $ sets ! (of_opd ! (get ! refl)) refl gh $
    first ! $ blocks ! $ sets_last ! (addr ! (through ! refl (stop !))) refl (tt, tt) $ exec ! 𝓣.C 𝓣.Λ Ev (after 4 fn.body) (at_ret Ev Post) $ sets ! (of_opd ! (get ! refl)) refl (tt, tt) $
    lft_new ! tt (λ ν. move ! (1 ∷ []) $ bor_new ! tt (ν ∷ []) $ move ! (0 ∷ 2 ∷ []) $
    use2 𝓛 (later (‵ (lent_at R p x (ν ∷ [])) ⊛ ‵ (flft (ν ∷ []) full_share)))
    (Lends-first 𝓛 (lies_at R full_share p x) (ghosts.dealloc_token a (bare (lone R.mir)) p) (lent_at R p x) R.lives (Lends-lies 𝓛 R R.lives p x (script_laws.the_row_laws.shares 𝓛 x)) (ν ∷ []) ((ν ∷ [], full_share) ∷ []) (meet_⊑_right (ν ∷ []) []) (Incl-refl (ν ∷ []))) $
    await ! tt $ split ! $ fsplit ! $ drop ! $ hide ! $ feq_i ! (List Val) (vptr b o ∷ []) (vptr b o ∷ []) refl $ fjoin ! $
    -- [the `&`; the lifetime; the script's box for later; the handle of the heap; nothing; nothing; the requires]
    let Ref : RattleType = ShrRef (named 0) (ν ∷ []) R in let ref : Ref.Denot = record { ref_ptr = (b, o); now = x } in let Lr : RattleType = loose.the_row (run_in (ν ∷ [])) Z ghosts in let Res : RattleType = RS.the_row Lr Z in
    let g : k.Ghost = (((ν ∷ [], tt), (full_share, tt), tt, (a, (ref, tt)), (h ∷ [], (vptr b o ∷ [], tt))), tt) in
    nothing ! $ move ! (1 ∷ 0 ∷ []) $ join ! $ move ! (3 ∷ 0 ∷ []) $ join ! $ nothing ! $ move ! (2 ∷ 0 ∷ []) $ join ! $ join ! $ nothing ! $ move ! (1 ∷ 0 ∷ []) $ use2 𝓛 (raw (k.pre g)) (id⊢ 𝓤 _) $
    calls_at ! (fm 𝓛 𝓜 𝓡) k (met 𝓤 𝓛 𝓜 𝓡 (code.calls-camac_c::session::start 𝓡.env wired)) g (and_then ! (get ! refl) (and_then ! (get ! refl) (no_more !))) (λ u.
    use1 𝓛 (later (some (λ (r : Result Lr.Denot Z.Denot). ((‵ (flft (ν ∷ []) full_share) ⊛ ‵ ftrue) ⊛ ‵ (Res.own_val r (u ∷ []))) ⊛ some (λ (ls : Lasts callee.ended g.0.0 g.0.3). ‵ (lasts callee.ended g.0.0 g.0.3 ls) ⊛ raw (fact 𝓤 (IfOk r (λ (j : Lr.Denot). StartsOn x j.value))))))) (id⊢ 𝓤 (k.post g u)) $
    await ! tt $ pick ! (λ r. split ! $ move ! (1 ∷ []) $ pick ! (λ _. split ! $ drop ! $ heard ! (IfOk r (λ (j : Lr.Denot). StartsOn x j.value)) (λ fine. split ! $ split ! $ move ! (2 ∷ []) $
    let arms : Body = head (after 6 fn.body) in let Then = any_q (after_seq 𝓤 H (Wp 𝓤 H 𝓣.C 𝓣.Λ Ev (after 7 fn.body) (at_return 𝓤 H Ev Post)) (at_return 𝓤 H Ev Post)) in
    result_out Lr Z ! r (u ∷ [])
    (λ j us is eu. loose_out (run_in (ν ∷ [])) Z heap_laws.the_row_laws ghosts ! j us (λ b₂ o₂ h₂ at₂ ws₂ gh₂.
    -- [the run's box; the handle of the heap; the lifetime; nothing; the script's box for later; nothing; nothing; the requires]
    let l₂ = both_good (block_ptr b₂ o₂) h₂ gh₂ in let w₂ : Val = three (vptr b₂ o₂) (vptr b o) h₂ in let typed = three_good (block_ptr b₂ o₂) p h₂ gh₂ in let v₁ : Val = live 0 (vcons w₂ vnil) in
    let d₂ : Hr.Denot = record { run = block_ptr b₂ o₂; script = p; alloc = j.alloc; value = Some j.value } in let good : Good (layout Out) v₁ = (and_tt _ typed.0, (record { fits = lit< tt }, (typed.1, tt))) in
    lands_as ! (ap only (eu ∙ ap (λ (qs : List Val). live 0 (of_list (qs ++ [])) ∷ []) ws₂)) refl (and_tt _ l₂.0, (record { fits = lit< tt }, (l₂.1, tt))) $
    first ! $ switches_on ! (get_tag ! (vrt ! refl (fld ! refl (stop !))) (whole !)) $ exec ! 𝓣.C 𝓣.Λ Ev (arm_body 0 arms) Then $
    sets ! (of_opd ! (get_in ! (vrt ! refl (fld ! refl (stop !))) (in_variant ! 0 0 refl refl (whole !)))) refl l₂ $
    sets ! (of_opd ! (get_in ! (fld ! refl (stop !)) (sub ! 0 refl (whole !)))) refl (tt, tt) $ sets ! (of_opd ! (get_in ! (fld ! refl (stop !)) (sub ! 1 refl (whole !)))) refl gh₂ $
    sets ! (of_opd ! (get ! refl)) refl (tt, tt) $ sets ! (of_opd ! (get ! refl)) refl (tt, tt) $ sets ! (of_opd ! (get ! refl)) refl (tt, tt) $ sets ! (of_opd ! (get ! refl)) refl (tt, tt) $ sets ! (of_opd ! (get ! refl)) refl gh₂ $
    sets ! (agg ! (and_then ! (get ! refl) (and_then ! (get ! refl) (and_then ! (get ! refl) (no_more !))))) refl typed $ sets_last ! (agg ! (and_then ! (lit ! tt) (and_then ! (get ! refl) (no_more !)))) refl good $
    exec ! 𝓣.C 𝓣.Λ Ev (after 7 fn.body) (at_ret Ev Post) $ sets ! (of_opd ! (get ! refl)) refl good $
    move ! (0 ∷ 2 ∷ 4 ∷ []) $ some_owned ! j.alloc (block_ptr b₂ o₂) p j.value ν x $ handle_in ! (block_ptr b₂ o₂) p h₂ j.alloc (Some j.value) $
    use1 𝓛 (‵ (Out.own_val (Ok d₂) (v₁ ∷ []))) (Ok-of 𝓛 Hr Lp d₂ w₂) $
    use0 𝓛 (raw (fact 𝓤 (Unit {0}))) (fact_i 𝓤 (Unit {0}) (emp 𝓤) tt) $ use0 𝓛 (raw (fact 𝓤 (StartsOn x j.value))) (fact_i 𝓤 (StartsOn x j.value) (emp 𝓤) (subst (λ (r' : Result Lr.Denot Z.Denot). IfOk r' (λ (i : Lr.Denot). StartsOn x i.value)) is fine)) $ join ! $ nothing ! $ nothing ! $ fjoin ! $
    returns ! (look_at ! 0 refl) $ free_all ! refl $ keep ! (3 ∷ 0 ∷ 2 ∷ 1 ∷ []) $ by ! (leaves 𝓛 En hs c z v₁ (Ok d₂) (tt, tt) (tt, tt))))
    (λ e us is eu. handle_tells al ! e us (λ h₂ eh gh₂.
    -- [the handle of the heap; the lifetime; nothing; the script's box for later; nothing; nothing; the requires]
    let w₂ : Val = both (vptr b o) h₂ in let typed = both_good p h₂ gh₂ in let v₁ : Val = live 1 (vcons w₂ vnil) in let d₂ : Lp.Denot = record { at = p; alloc = e; value = x } in let good : Good (layout Out) v₁ = (and_tt _ typed.0, (record { fits = lit< tt }, (typed.1, tt))) in
    lands_as ! (ap only (eu ∙ ap (λ (qs : List Val). live 1 (of_list (qs ++ [])) ∷ []) eh)) refl (and_tt _ gh₂.0, (record { fits = lit< tt }, (gh₂.1, tt))) $
    first ! $ switches_on ! (get_tag ! (vrt ! refl (fld ! refl (stop !))) (whole !)) $ exec ! 𝓣.C 𝓣.Λ Ev (arm_body 1 arms) Then $
    sets ! (of_opd ! (get_in ! (vrt ! refl (fld ! refl (stop !))) (in_variant ! 1 0 refl refl (whole !)))) refl gh₂ $ sets ! (of_opd ! (get ! refl)) refl (tt, tt) $ sets ! (of_opd ! (get ! refl)) refl gh₂ $
    sets ! (agg ! (and_then ! (get ! refl) (and_then ! (get ! refl) (no_more !)))) refl typed $ sets_last ! (agg ! (and_then ! (lit ! tt) (and_then ! (get ! refl) (no_more !)))) refl good $
    exec ! 𝓣.C 𝓣.Λ Ev (after 7 fn.body) (at_ret Ev Post) $ sets ! (of_opd ! (get ! refl)) refl good $
    move ! (1 ∷ []) $ lft_end ! tt $ move ! (0 ∷ 3 ∷ []) $ lent_back ! tt $ loose_in_at ! R p h₂ e x $
    use1 𝓛 (‵ (Out.own_val (Err d₂) (v₁ ∷ []))) (Err-of 𝓛 Hr Lp d₂ w₂) $
    use0 𝓛 (raw (fact 𝓤 (x ≡ x))) (fact_i 𝓤 (x ≡ x) (emp 𝓤) refl) $ use0 𝓛 (raw (fact 𝓤 (Unit {0}))) (fact_i 𝓤 (Unit {0}) (emp 𝓤) tt) $ join ! $ nothing ! $ nothing ! $ fjoin ! $
    returns ! (look_at ! 0 refl) $ free_all ! refl $ keep ! (3 ∷ 0 ∷ 2 ∷ 1 ∷ []) $ by ! (leaves 𝓛 En hs c z v₁ (Err d₂) (tt, tt) (tt, tt))))))))))))
