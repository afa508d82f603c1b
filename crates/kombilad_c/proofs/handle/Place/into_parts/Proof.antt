-- `into_parts` hands over what the place owns.
use Rattle.std.proofs.Common.{◌≡◌, List, [], ◌∷◌, ◌++◌, refl, sym, ap, ◌∙◌, subst}
use Rattle.std.specs.Prelude.{Option, Some, None, IsSome}
use mir.Val.{Val}
use base.Logic.{SProp, ent, emp, id⊢, never, fst∗}
use base.Fml.{ftrue, fsep}
use prog.Wp.{WpFn}
use types.Logic.{sem}
use contract.Monad.{fact, fact_i}
use contract.Running.{tables}
use types.Kit.{‵, raw, ◌⊛◌, ◌$◌, ◌∵◌, !, qed, by, move, keep, use0, use1, split, rewrite, fsplit, fjoin, suffices}
use types.Part.{whole, sub, agg}
use types.Run.{stop, fld, no_more, and_then, of_opd, returns, enter}
use types.ByLocal.{alloc_all, pass_all, free_all, look_at, get, get_in, sets}
use denote.Exit.{yes}
use denote.RawPtr.{Ptr, block_ptr, null_ptr, in_a_block}
use denote.Signature.{plain}
use denote.Steps.{nothing, heard}
use denote.Triple.Walked.{Stays, stay_dropped, walk_of, Goes-dropped}
use mir.Raw.{raw as bare}
use Rattle.core.proofs.alloc.Calls.{token, handle_tells}
use Rattle.std_alloc.specs.Box.Ownership.{box_owns}
use Rattle.std_alloc.proofs.BoxSteps.Form.{D, R, τ, word, box_typed}
use Rattle.std_alloc.proofs.BoxSteps.Steps.{box_in}
use Rattle.std.proofs.raw_atomic.Walks.{proved_at, leaves}
use Rattle.kombilad_c.specs.Handle.{place_owns}
use Rattle.kombilad_c.specs.contracts.box_parts.BoxParts as parts
use Rattle.kombilad_c.proofs.Places.{E, Place, lone, place_out}
use Rattle.kombilad_c.specs.contracts.handle.Place.into_parts.{ended, clauses}
use Rattle.kombilad_c.specs.contracts.handle.Place.into_parts.Key.{name as #self}
use Rattle.kombilad_c.proofs.handle.Place.into_parts.Statement.{statement}
use Rattle.kombilad_c.proofs.handle.Place.into_parts.Code as code

some_of : {X : Type 0} (o : Option X) → IsSome o → (x : X) × (o ≡ Some x)
some_of {X} None is = absurd (let no : IsSome {T = X} None = is in cc)
some_of (Some x) is = (x, refl)

pub into_parts_spec : {M : Type 1} → statement M
into_parts_spec 𝓤 𝓛 𝓜 𝓡 wired =
    let H = 𝓛.H in let 𝓣 = tables 𝓤 H 𝓜 𝓡 𝓡.env in let En = ended in let c = clauses 𝓛 𝓜.mem 𝓡.returns in let fn = code.function in
    let Z = E.al.row in let To = parts.the_row E.row Z E.al.g in
    let hs : Stays En.signature.params En.kept = (stay_dropped (plain (λ _. Place)) yes, (stay_dropped (plain (λ _. Z)) yes, tt)) in
    proved_at 𝓛 En hs c 𝓜 𝓡 (Goes-dropped 𝓛 0 (plain (λ _. Place)) yes (λ κs x f. refl), (Goes-dropped 𝓛 0 (plain (λ _. Z)) yes (λ κs x f. refl), tt)) #self fn (code.unfolded 𝓤 H 𝓜 𝓡 wired) (λ z are.
    let Post : Val → SProp 𝓤 = (walk_of 𝓛 En hs c).post z in let Run : List Val → SProp 𝓤 = λ ws. WpFn 𝓤 H 𝓣.C 𝓣.Λ fn ws Post in
    let d : Place.Denot = z.0.3.0 in let a : Z.Denot = z.0.3.1.0 in
    qed 𝓛 ((‵ ftrue ⊛ ‵ (fsep (Place.own_val d z.0.4.0) (fsep (Z.own_val a z.0.4.1.0) ftrue))) ∷ raw (fact 𝓤 (IsSome d.held)) ∷ []) ∵ move ! (1 ∷ []) $ heard ! (IsSome d.held) (λ asked. let is = some_of d.held asked in
    split ! $ move ! (1 ∷ []) $ fsplit ! $ place_out ! d z.0.4.0 (λ ws. rewrite ! 0 (λ (o : Option E.row.Denot). ‵ (place_owns d.at o)) is.1 refl $
    use1 𝓛 (‵ (box_owns (token E.al a) (R E) d.at is.0)) (id⊢ 𝓤 _) $
    in_a_block ! d.at (λ p. box_owns (token E.al a) (R E) p is.0) (fst∗ 𝓤 (never 𝓤) (sem 𝓛 (token E.al a (bare (τ E)) null_ptr))) (λ b o e.
    move ! (1 ∷ []) $ fsplit ! $ handle_tells E.al ! a z.0.4.1.0 (λ hv eh fa.
    let made : To.Denot = record { ptr = block_ptr b o; alloc = a; value = is.0 } in let v : D E = record { ptr = block_ptr b o; alloc = a; value = is.0 } in
    move ! (2 ∷ []) $ fsplit ! $ box_in E ! v b o is.0 refl refl $ use1 𝓛 (‵ (To.own_val made (word E hv b o ∷ []))) (id⊢ 𝓤 _) $
    let w = lone (block_ptr b o) in let told : z.0.4.0 ≡ w ∷ [] = ws ∙ ap (λ (p : Ptr). lone p ∷ []) e in
    suffices ! (Run (w ∷ hv ∷ [])) (subst (λ (us : List Val). ent 𝓤 (Run (w ∷ hv ∷ [])) (Run us)) (sym (λ i. told i ++ (eh i ++ []))) (id⊢ 𝓤 (Run (w ∷ hv ∷ [])))) $
    enter ! 𝓣.C 𝓣.Λ fn (w ∷ hv ∷ []) Post $ alloc_all ! (λ l. pass_all ! refl ((tt, (tt, tt)), (fa, tt)) $
    sets ! (of_opd ! (get_in ! (fld ! refl (stop !)) (sub ! 0 refl (whole !)))) refl (tt, tt) $ sets ! (of_opd ! (get ! refl)) refl (tt, tt) $
    sets ! (agg ! (and_then ! (get ! refl) (and_then ! (get ! refl) (no_more !)))) refl (box_typed E hv b o fa) $
    use0 𝓛 (raw (fact 𝓤 (d.held ≡ Some made.value))) (fact_i 𝓤 (d.held ≡ Some made.value) (emp 𝓤) is.1) $ nothing ! $ nothing ! $ fjoin ! $ nothing ! $ fjoin ! $
    returns ! (look_at ! 0 refl) $ free_all ! refl $ keep ! (4 ∷ 0 ∷ 2 ∷ 1 ∷ []) $ by ! (leaves 𝓛 En hs c z (word E hv b o) made (tt, (tt, tt)) (tt, (tt, tt)))))))))
