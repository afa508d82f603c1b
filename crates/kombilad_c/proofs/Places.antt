-- The machine values of a place, and the box of what a handle holds.
use Rattle.std.proofs.Common.{◌≡◌, List, [], ◌∷◌, ◌++◌, Option, refl, subst}
use seplogic.Ra.Ura.{Ura}
use mir.Syntax.{impl, tnil, dnil}
use mir.Val.{Val, vstruct, of_list}
use types.Logic.{Logic}
use types.Kit.{Item, Goal, Seq, Step, step, ‵, ◌$◌, drop, fsplit, fjoin, fpick, fpack, feq_i, feq_l}
use denote.RattleType.{RattleType, Valss}
use denote.Builtin.{RawPtr}
use denote.RawPtr.{Ptr, ptr_val}
use denote.Steps.{nothing}
use denote.Struct.Struct.{within}
use denote.Struct.Owning.{shape}
use Rattle.std_alloc.proofs.BoxSteps.Form.{Bx}
use Rattle.std_heap.specs.contracts.Global as Heap
use Rattle.std_heap.specs.contracts.GlobalAllocator.TheImpl.{ghosts, dict}
use Rattle.std_heap.proofs.Global.TheLaws as heap
use Rattle.kombilad_c.specs.contracts.held.Held as Held
use Rattle.kombilad_c.proofs.held.Held.TheLaws as held
use Rattle.kombilad_c.specs.Handle.{place_owns}
use Rattle.kombilad_c.specs.contracts.handle.Place as place

-- the box of what a handle holds
abbrev pub E : Bx
E = record { row = Held.the_row; laws = held.the_row_laws; al = record { row = Heap.the_row; laws = heap.the_row_laws; g = ghosts; d = dict; drops = impl [] tnil dnil } }

abbrev pub Place : RattleType
Place = place.the_row

-- the value of a place
abbrev pub lone : Ptr → Val
lone p = vstruct (of_list (ptr_val p ∷ []))

module _ {M : Type 1} {𝓤 : Ura M} {𝓛 : Logic 𝓤} {K : Type 0} {Γ : List (Item 𝓤)} {G : Goal 𝓤 𝓛.H} where
  pub place_out : K → (d : Place.Denot) (vs : List Val) → (vs ≡ lone d.at ∷ [] → Seq K 𝓛 (‵ (place_owns d.at d.held) ∷ Γ) G) → Seq K 𝓛 (‵ (Place.own_val d vs) ∷ Γ) G
  place_out t d vs k =
      fsplit t $ fpick t (λ vss. fsplit t $ feq_l t (λ ev. fsplit t $ feq_l t (λ ep. drop t $ k
      (subst (λ (ps : List Val). vs ≡ vstruct (of_list (ps ++ [])) ∷ []) ep ev))))

  pub place_in : K → (p : Ptr) (w : Option Held.the_row.Denot) → Step K 𝓛 (‵ (Place.own_val (record { at = p; held = w }) (lone p ∷ [])) ∷ Γ) G (‵ (place_owns p w) ∷ Γ) G
  place_in t p w = step (λ s.
      nothing t $ feq_i t (List Val) (ptr_val p ∷ []) (ptr_val p ∷ []) refl $ fjoin t $ feq_i t (List Val) (lone p ∷ []) (lone p ∷ []) refl $ fjoin t $
      fpack t (Valss (RawPtr ∷ [])) (within (shape place.the_type) (p, tt) (lone p ∷ [])) (ptr_val p ∷ [], tt) $ fjoin t $ s)
