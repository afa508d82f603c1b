-- The children of a part.
use Rattle.std.proofs.Common.{◌≡◌, ℕ, suc, ◌+◌, ◌<◌, List, [], ◌∷◌, ◌++◌, length, map, refl, sym, ap, subst, ◌∙◌, arith, length-append, append_assoc}
use Rattle.std.specs.Prelude.{reverse, Option, Some, None, IsSome, option_to_list}
use Rattle.std.proofs.lemmas.List.Elements.{All-cons}
use Rattle.std.proofs.lemmas.List.{length-map, map-append, reverse-append, append-nil}
use Rattle.dag_pb.specs.declared.link.PbLink.{PbLink}
use Rattle.dag_pb.specs.Node.{LinkParts}
use Rattle.dag_pb.specs.Views.{parts_of_link}
use Rattle.unixfs.specs.Files.{Child, children_of}
use Rattle.unixfs_files.specs.declared.state.WaitingPart.{WaitingPart}
use Rattle.unixfs_files.specs.Walking.{child_of, HaveLevel}

-- there are as many children as links
count_of : (links : List LinkParts) (sizes : List ℕ) → length links ≡ length sizes → length (children_of links sizes) ≡ length links
count_of [] [] same = refl
count_of [] (n ∷ ns) same = refl
count_of (l ∷ ls) [] same = absurd (omega arith)
count_of (l ∷ ls) (n ∷ ns) same = ap (λ (k : ℕ). suc k) (count_of ls ns (omega arith))

pub count : (links : List PbLink) (sizes : List ℕ) → length links ≡ length sizes → length (children_of (map parts_of_link links) sizes) ≡ length links
count links sizes same = count_of (map parts_of_link links) sizes (length-map links parts_of_link ∙ same) ∙ length-map links parts_of_link

-- the last child of the links
children_last : (ls : List LinkParts) (ns : List ℕ) (l : LinkParts) (n : ℕ) → length ls ≡ length ns
    → children_of (ls ++ l ∷ []) (ns ++ n ∷ []) ≡ children_of ls ns ++ record { link = l.hash; size = Some n } ∷ []
children_last [] [] l n same = refl
children_last [] (m ∷ ns) l n same = absurd (omega arith)
children_last (k ∷ ls) [] l n same = absurd (omega arith)
children_last (k ∷ ls) (m ∷ ns) l n same = ap (λ (cs : List Child). record { link = k.hash; size = Some m } ∷ cs) (children_last ls ns l n (omega arith))

-- what a loop over the links from their end keeps
pub record Reversed (level : ℕ) (links : List PbLink) (sizes : List ℕ) (parts : List WaitingPart) (all : List Child) : Type 0 where
  pub paired : length links ≡ length sizes
  pub same : children_of (map parts_of_link links) sizes ++ map child_of (reverse parts) ≡ all
  pub levels : HaveLevel level (reverse parts)

pub one_more : (level : ℕ) (links less : List PbLink) (sizes fewer : List ℕ) (parts more : List WaitingPart) (all : List Child) (link : PbLink) (o : Option ℕ) (part : WaitingPart)
    → Reversed level links sizes parts all → links ≡ less ++ link ∷ [] → sizes ≡ fewer ++ option_to_list o → (0 < length sizes → IsSome o) → child_of part ≡ record { link = (parts_of_link link).hash; size = o }
    → part.level ≡ level → more ≡ parts ++ part ∷ [] → Reversed level less fewer more all
one_more level links less sizes fewer parts more all link None part r front back has is at added =
    absurd (let no : IsSome {T = ℕ} None = has (omega (arith, r.paired, ap length front, length-append less (link ∷ []))) in cc)
one_more level links less sizes fewer parts more all link (Some n) part r front back has is at added =
    let paired : length less ≡ length fewer = omega (arith, r.paired, ap length front, length-append less (link ∷ []), ap length back, length-append fewer (n ∷ [])) in
    let child : Child = record { link = (parts_of_link link).hash; size = Some n } in
    let links_are : map parts_of_link links ≡ map parts_of_link less ++ parts_of_link link ∷ [] = ap (λ (ls : List PbLink). map parts_of_link ls) front ∙ map-append parts_of_link less (link ∷ []) in
    let children : children_of (map parts_of_link links) sizes ≡ children_of (map parts_of_link less) fewer ++ child ∷ [] =
    ap (λ (ls : List LinkParts). children_of ls sizes) links_are ∙ ap (λ (ns : List ℕ). children_of (map parts_of_link less ++ parts_of_link link ∷ []) ns) back
    ∙ children_last (map parts_of_link less) fewer (parts_of_link link) n (length-map less parts_of_link ∙ paired) in
    let turned : reverse more ≡ part ∷ reverse parts = ap (λ (ps : List WaitingPart). reverse ps) added ∙ reverse-append parts (part ∷ []) in
    let behind : map child_of (reverse more) ≡ child ∷ map child_of (reverse parts) = ap (λ (ps : List WaitingPart). map child_of ps) turned ∙ ap (λ (c : Child). c ∷ map child_of (reverse parts)) is in
    record {
      paired = paired;
      same = ap (λ (cs : List Child). children_of (map parts_of_link less) fewer ++ cs) behind ∙ sym (append_assoc (children_of (map parts_of_link less) fewer) (child ∷ []) (map child_of (reverse parts)))
          ∙ ap (λ (cs : List Child). cs ++ map child_of (reverse parts)) (sym children) ∙ r.same;
      levels = subst (λ (ps : List WaitingPart). HaveLevel level ps) (sym turned) (All-cons (λ (p : WaitingPart). p.level ≡ level) part (reverse parts) at r.levels);
    }
