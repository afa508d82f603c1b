-- The places of sections, added one after the other.
use Rattle.std.proofs.Common.{◌≡◌, ℕ, ◌+◌, Bool, true, false, List, [], ◌∷◌, ◌++◌, map, refl, sym, ap, subst, ◌∙◌, arith, append_assoc, append-nil}
use Rattle.std.proofs.lemmas.List.{map-append}
use Rattle.ipld_cid.specs.Cid.{Link}
use Rattle.ipld_car.specs.Section.{Block}
use Rattle.car_files.specs.Places.{Adds, kept, place_of, places_in, places_of}
use Rattle.car_files.specs.Written.{section_len, sections_len}
use Rattle.car_files.specs.declared.places.SectionPlace.{SectionPlace}
use Rattle.car_files.specs.declared.places.SectionPlaces.{SectionPlaces}

kept_none : (is : Bool) → kept is [] ≡ []
kept_none true = refl
kept_none false = refl

kept_both : (is : Bool) (first second : List (Link × ℕ)) → kept is first ++ kept is second ≡ kept is (first ++ second)
kept_both true first second = refl
kept_both false first second = refl

-- no place was added
pub adds_none : (places : SectionPlaces) → Adds places places []
adds_none places = record {
  same = refl;
  added = sym (append-nil (places_in places)) ∙ ap (λ (l : List (Link × ℕ)). places_in places ++ l) (sym (kept_none places.is_kept));
}

-- places aren't kept
pub adds_nothing : (places : SectionPlaces) (more : List (Link × ℕ)) → places.is_kept ≡ false → Adds places places more
adds_nothing places more off = record {
  same = refl;
  added = sym (append-nil (places_in places)) ∙ ap (λ (is : Bool). places_in places ++ kept is more) (sym off);
}

-- a place was added
pub adds_one : (old new : SectionPlaces) (place : SectionPlace) → old.is_kept ≡ true → new.is_kept ≡ old.is_kept → new.places.items ≡ old.places.items ++ place ∷ []
    → Adds old new (place_of place ∷ [])
adds_one old new place on same e = record {
  same = same;
  added = ap (map place_of) e ∙ map-append place_of old.places.items (place ∷ []) ∙ ap (λ (is : Bool). places_in old ++ kept is (place_of place ∷ [])) (sym on);
}

-- places were added, and then more
pub adds_both : (old mid new : SectionPlaces) (first second : List (Link × ℕ)) → Adds old mid first → Adds mid new second → Adds old new (first ++ second)
adds_both old mid new first second a b = record {
  same = b.same ∙ a.same;
  added = b.added ∙ ap (λ (l : List (Link × ℕ)). l ++ kept mid.is_kept second) a.added ∙ append_assoc (places_in old) (kept old.is_kept first) (kept mid.is_kept second)
      ∙ ap (λ (is : Bool). places_in old ++ (kept old.is_kept first ++ kept is second)) a.same
      ∙ ap (λ (l : List (Link × ℕ)). places_in old ++ l) (kept_both old.is_kept first second);
}

-- the places of sections, and of one more
places_more : (begin : ℕ) (blocks : List Block) (block : Block)
    → places_of begin (blocks ++ block ∷ []) ≡ places_of begin blocks ++ (block.cid, begin + sections_len blocks) ∷ []
places_more begin [] block = ap (λ (n : ℕ). (block.cid, n) ∷ []) (let is : begin ≡ begin + 0 = omega arith in is)
places_more begin (first ∷ blocks) block =
    ap (λ (l : List (Link × ℕ)). (first.cid, begin) ∷ l) (places_more (begin + section_len first) blocks block
    ∙ ap (λ (n : ℕ). places_of (begin + section_len first) blocks ++ (block.cid, n) ∷ [])
    (let is : begin + section_len first + sections_len blocks ≡ begin + (section_len first + sections_len blocks) = omega arith in is))

-- the place of a block was added, by its CID
pub adds_block : (old new : SectionPlaces) (block : Block) (cid : Link) (offset : ℕ) → cid ≡ block.cid → Adds old new ((cid, offset) ∷ [])
    → Adds old new ((block.cid, offset) ∷ [])
adds_block old new block cid offset same a = subst (λ (link : Link). Adds old new ((link, offset) ∷ [])) same a

-- the place of a section was added to those of the sections before it
pub adds_section : (old mid new : SectionPlaces) (begin offset : ℕ) (blocks : List Block) (block : Block) → Adds old mid (places_of begin blocks)
    → offset ≡ begin + sections_len blocks → Adds mid new ((block.cid, offset) ∷ []) → Adds old new (places_of begin (blocks ++ block ∷ []))
adds_section old mid new begin offset blocks block a at b =
    rw (places_more begin blocks block, ← at) (adds_both old mid new (places_of begin blocks) ((block.cid, offset) ∷ []) a b)
