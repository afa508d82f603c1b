-- What the entries of a node are.
use Rattle.std.proofs.Common.{◌≡◌, ℕ, ◌+◌, ◌≤◌, ◌^◌, Bool, true, false, cond, List, [], ◌∷◌, ◌++◌, length, take, drop, Option, Some, None, inl, inr, refl, sym, ap, ◌∙◌, arith, append_assoc, length-append}
use Rattle.std.specs.Prelude.{◌⊎◌, ◌&&◌}
use Rattle.std.proofs.Math.Seq.{take-append_seam, drop-append_seam}
use Rattle.std.proofs.lemmas.Bool.{cases_lt, lt-ltb, le-ltb}
use Rattle.std.proofs.lemmas.List.{append-nil}
use Rattle.dag_cbor_blocks.specs.Tape.{entry}
use Rattle.dag_cbor_blocks.specs.declared.tape.TapeEntry.{TapeEntry}
use Rattle.dag_cbor_tape.specs.Describes.{Refers}
use Rattle.dag_cbor_tape.specs.Entry.{content_of}
use Rattle.dag_pb.specs.declared.spans.PbSpan.{PbSpan}
use Rattle.dag_pb.specs.declared.spans.PbLinkSpans.{PbLinkSpans}
use Rattle.dag_pb.specs.declared.spans.PbNodeSpans.{PbNodeSpans}
use Rattle.dag_pb.specs.Node.{LinkParts, NodeParts}
use Rattle.dag_pb.specs.Spans.{StandsAt, MayStandAt, LinkStandsAt, LinksStandAt, NodeStandsAt}
use Rattle.kombilad_c.specs.PbTape.{DescribesWhere, DescribesLink, DescribesLinks, DescribesNode, is_short, names_are_short, node_is_short, tsize_entry, Entries, joined, content_at, content_where, link_at, links_at, node_at}

-- ---- entries, one after another

pub joined_none : (a : Entries) → joined a (Some []) ≡ a
joined_none (Some es) = ap Some (append-nil es)
joined_none None = refl

pub joined_assoc : (a b c : Entries) → joined (joined a b) c ≡ joined a (joined b c)
joined_assoc (Some x) (Some y) (Some z) = ap Some (append_assoc x y z)
joined_assoc (Some x) (Some y) None = refl
joined_assoc (Some x) None (Some z) = refl
joined_assoc (Some x) None None = refl
joined_assoc None (Some y) (Some z) = refl
joined_assoc None (Some y) None = refl
joined_assoc None None (Some z) = refl
joined_assoc None None None = refl

-- both are there
joined_some : (a b : Entries) (es : List TapeEntry) → joined a b ≡ Some es → (x : List TapeEntry) × (y : List TapeEntry) × (a ≡ Some x) × (b ≡ Some y) × (es ≡ x ++ y)
joined_some (Some x) (Some y) es e = (x, y, refl, refl, sym (let same : x ++ y ≡ es = cc in same))
joined_some (Some x) None es e = absurd cc
joined_some None (Some y) es e = absurd cc
joined_some None None es e = absurd cc

-- one of them isn't
joined_neither : (a b : Entries) → joined a b ≡ None → (a ≡ None) ⊎ (b ≡ None)
joined_neither (Some x) (Some y) e = absurd cc
joined_neither (Some x) None e = inr refl
joined_neither None b e = inl refl

-- ---- content

refers : (kind : ℕ) (c block : List ℕ) (span : PbSpan) → StandsAt c block span → Refers block kind (entry kind span.len span.offset) c
unfolding content_of
refers kind c block span at =
    let all : length block ≡ length at.before + (length c + length at.behind) = ap length at.parts ∙ length-append at.before (c ++ at.behind) ∙ ap (λ (n : ℕ). length at.before + n) (length-append c at.behind) in
    let within : span.offset + span.len ≤ length block = omega (arith, at.begins, at.long) in
    let there : take span.len (drop span.offset block) ≡ c =
    ap (λ (n : ℕ). take n (drop span.offset block)) at.long ∙ ap (λ (n : ℕ). take (length c) (drop n block)) at.begins
    ∙ ap (λ (x : List ℕ). take (length c) (drop (length at.before) x)) at.parts
    ∙ ap (λ (x : List ℕ). take (length c) x) (drop-append_seam at.before (c ++ at.behind)) ∙ take-append_seam c at.behind in
    record { kind_is = refl; content_is = ap (λ (b : Bool). cond b None (Some (take span.len (drop span.offset block)))) (le-ltb (length block) (span.offset + span.len) within) ∙ ap Some there }

-- of a span that is short there is an entry, and of a long one none
content_some : (kind : ℕ) (span : PbSpan) (es : List TapeEntry) → content_at kind span ≡ Some es → es ≡ entry kind span.len span.offset ∷ []
content_some kind span es e =
    elim (cases_lt span.len (2 ^ 32)) [
      | inl short ↦ let is = rw (lt-ltb span.len (2 ^ 32) short) at e in let same : entry kind span.len span.offset ∷ [] ≡ es = cc in sym same
      | inr long ↦ let is = rw (le-ltb span.len (2 ^ 32) long) at e in absurd cc
    ]

content_none : (kind : ℕ) (span : PbSpan) → content_at kind span ≡ None → 2 ^ 32 ≤ span.len
content_none kind span e =
    elim (cases_lt span.len (2 ^ 32)) [
      | inl short ↦ let is = rw (lt-ltb span.len (2 ^ 32) short) at e in absurd cc
      | inr long ↦ long
    ]

where_some : (kind : ℕ) (o : Option (List ℕ)) (block : List ℕ) (span : Option PbSpan) (es : List TapeEntry) → MayStandAt o block span → content_where kind span ≡ Some es → DescribesWhere block kind o es
where_some kind None block None es at e = let same : [] ≡ es = cc in sym same
where_some kind None block (Some span) es at e = absurd at
where_some kind (Some c) block None es at e = absurd at
where_some kind (Some c) block (Some span) es at e = (entry kind span.len span.offset, refers kind c block span at, content_some kind span es e)

where_none : (kind : ℕ) (o : Option (List ℕ)) (block : List ℕ) (span : Option PbSpan) → MayStandAt o block span → content_where kind span ≡ None → is_short o ≡ false
where_none kind None block None at e = absurd cc
where_none kind None block (Some span) at e = absurd at
where_none kind (Some c) block None at e = absurd at
where_none kind (Some c) block (Some span) at e = let long = content_none kind span e in le-ltb (length c) (2 ^ 32) (omega (arith, at.long))

-- ---- links

link_some : (block : List ℕ) (l : LinkParts) (s : PbLinkSpans) (es : List TapeEntry) → LinkStandsAt l block s → link_at s ≡ Some es → DescribesLink block l es
link_some block l s es at e =
    let all = joined_some (content_at 8 s.hash) (joined (content_where 6 s.name) (Some (tsize_entry s.tsize))) es e in
    let more = joined_some (content_where 6 s.name) (Some (tsize_entry s.tsize)) all.1 all.3 in
    let size : tsize_entry s.tsize ≡ more.1 = cc in
    record {
      cid = at.cid;
      cid_encoded = at.cid_encoded;
      link = entry 8 s.hash.len s.hash.offset;
      refers = refers 8 at.cid block s.hash at.hash;
      name = more.0;
      named = where_some 6 l.name block s.name more.0 at.name more.2;
      is = all.4 ∙ ap (λ (x : List TapeEntry). x ++ all.1) (content_some 8 s.hash all.0 all.2)
          ∙ ap (λ (x : List TapeEntry). entry 8 s.hash.len s.hash.offset ∷ x) (more.4 ∙ ap (λ (x : List TapeEntry). more.0 ++ x) (sym size ∙ ap tsize_entry at.tsize));
    }

link_none : (block : List ℕ) (l : LinkParts) (s : PbLinkSpans) → LinkStandsAt l block s → link_at s ≡ None → is_short l.name ≡ false
link_none block l s at e =
    elim (joined_neither (content_at 8 s.hash) (joined (content_where 6 s.name) (Some (tsize_entry s.tsize))) e) [
      | inl hash ↦ (let long = content_none 8 s.hash hash in absurd (omega (arith, at.short)))
      | inr more ↦
          elim (joined_neither (content_where 6 s.name) (Some (tsize_entry s.tsize)) more) [
            | inl name ↦ where_none 6 l.name block s.name at.name name
            | inr size ↦ absurd cc
          ]
    ]

links_some : (block : List ℕ) (ls : List LinkParts) (ss : List PbLinkSpans) (es : List TapeEntry) → LinksStandAt ls block ss → links_at ss ≡ Some es → DescribesLinks block ls es
links_some block [] [] es at e = let same : [] ≡ es = cc in sym same
links_some block [] (s ∷ ss) es at e = absurd at
links_some block (l ∷ ls) [] es at e = absurd at
links_some block (l ∷ ls) (s ∷ ss) es at e =
    let all = joined_some (link_at s) (links_at ss) es e in
    (all.0, all.1, link_some block l s all.0 at.0 all.2, links_some block ls ss all.1 at.1 all.3, all.4)

and_false : (a b : Bool) → (a ≡ false) ⊎ (b ≡ false) → (a && b) ≡ false
and_false true b (inl e) = absurd cc
and_false true b (inr e) = e
and_false false b e = refl

links_none : (block : List ℕ) (ls : List LinkParts) (ss : List PbLinkSpans) → LinksStandAt ls block ss → links_at ss ≡ None → names_are_short ls ≡ false
links_none block [] [] at e = absurd cc
links_none block [] (s ∷ ss) at e = absurd at
links_none block (l ∷ ls) [] at e = absurd at
links_none block (l ∷ ls) (s ∷ ss) at e =
    elim (joined_neither (link_at s) (links_at ss) e) [
      | inl here ↦ and_false (is_short l.name) (names_are_short ls) (inl (link_none block l s at.0 here))
      | inr others ↦ and_false (is_short l.name) (names_are_short ls) (inr (links_none block ls ss at.1 others))
    ]

-- ---- nodes

pub node_some : (block : List ℕ) (n : NodeParts) (spans : PbNodeSpans) (es : List TapeEntry) → NodeStandsAt n block spans → node_at spans ≡ Some es → DescribesNode block n es
node_some block n spans es at e =
    let all = joined_some (links_at spans.links.items) (content_where 7 spans.data) es e in
    record {
      links = all.0;
      content = all.1;
      links_described = links_some block n.links spans.links.items all.0 at.links all.2;
      content_described = where_some 7 n.content block spans.data all.1 at.content all.3;
      is = all.4;
    }

pub node_none : (block : List ℕ) (n : NodeParts) (spans : PbNodeSpans) → NodeStandsAt n block spans → node_at spans ≡ None → node_is_short n ≡ false
node_none block n spans at e =
    elim (joined_neither (links_at spans.links.items) (content_where 7 spans.data) e) [
      | inl links ↦ and_false (names_are_short n.links) (is_short n.content) (inl (links_none block n.links spans.links.items at.links links))
      | inr data' ↦ and_false (names_are_short n.links) (is_short n.content) (inr (where_none 7 n.content block spans.data at.content data'))
    ]

-- no link is left
pub none_left : (rest : List PbLinkSpans) (so_far whole : Entries) → length rest ≡ 0 → joined so_far (links_at rest) ≡ whole → so_far ≡ whole
none_left [] so_far whole none is = sym (joined_none so_far) ∙ is
none_left (s ∷ ss) so_far whole none is = absurd (omega arith)

-- a link more
pub one_more : (rest : List PbLinkSpans) (s : PbLinkSpans) (ss : List PbLinkSpans) (before after whole : Entries) → rest ≡ s ∷ ss → after ≡ joined before (link_at s)
    → joined before (links_at rest) ≡ whole → joined after (links_at ss) ≡ whole
one_more rest s ss before after whole parts is so_far =
    ap (λ (a : Entries). joined a (links_at ss)) is ∙ joined_assoc before (link_at s) (links_at ss) ∙ ap (λ (r : List PbLinkSpans). joined before (links_at r)) (sym parts) ∙ so_far

-- before all entries
pub joined_first : (a : Entries) → joined (Some []) a ≡ a
joined_first (Some es) = refl
joined_first None = refl
