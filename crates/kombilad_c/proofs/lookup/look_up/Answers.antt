use Rattle.std.proofs.Common.{◌≡◌, ℕ, suc, List, Some, None, length, refl, sym, ap, subst, ◌∙◌, arith, add-one}
use Rattle.std.specs.Prelude.{map, option_map}
use Rattle.ipld_block.specs.Digest.{digest_by}
use Rattle.ipld_cid.specs.Cid.{Link}
use Rattle.ipld_cid.specs.LinkOf.{link_of}
use Rattle.std.proofs.lemmas.List.{length-map}
use Rattle.std.proofs.lemmas.Option.{same_Some}
use Rattle.unixfs_folders.specs.declared.lookup.LookupStep.{LookupStep}
use Rattle.unixfs_folders.specs.Folders.{HasEntry, HasNoEntry}
use Rattle.unixfs_folders.specs.Lookups.{lookup_parts, Descends, Answers}
use Rattle.kombilad_c.specs.Lookup.{content_at, block_at, finds, finds_none, asks, stops}
use Rattle.kombilad_c.proofs.Lookups.{block_there, at_top}
use Rattle.kombilad_c.proofs.lookup.look_up.Goals as goal

pub loop-block-init : goal.loop-block-init
loop-block-init c =
    let top = c.new-lookup.ensures.begins (λ code bytes. None) in record {
      looks = c.new-lookup.ensures.begins digest_by;
      named = c.new-lookup.ensures.name;
      deep = at_top (link_of c.args.folder.now) top.0 c.new-lookup.result.name.now c.new-lookup.result.depth top.2;
      within = omega arith;
      same_cid = refl;
      same_place = refl;
    }

pub returns-in-Ok-Found : goal.returns-in-Ok-Found
returns-in-Ok-Found c =
    let inv = c.loop-block.invariant in
    let answers = subst (λ (s : LookupStep). Answers digest_by (lookup_parts c.loop-block.lookup) (lookup_parts c.take.new.self) s) c.in-Ok-Found.field-0-is c.in-Ok-Found.ensures.answers in
    finds (link_of c.in-Ok-Found.found)
    (subst (λ (name : List ℕ). HasEntry digest_by (link_of c.args.folder.now) name (link_of c.in-Ok-Found.found)) inv.named (answers.1 (link_of c.args.folder.now) inv.looks))
    refl c.of.ensures inv.same_place

pub returns-in-Ok-Missing : goal.returns-in-Ok-Missing
returns-in-Ok-Missing c =
    let inv = c.loop-block.invariant in
    let answers = subst (λ (s : LookupStep). Answers digest_by (lookup_parts c.loop-block.lookup) (lookup_parts c.take.new.self) s) c.in-Ok-Missing.field-0-is c.in-Ok-Missing.ensures.answers in
    finds_none (subst (λ (name : List ℕ). HasNoEntry digest_by (link_of c.args.folder.now) name) inv.named (answers.1 (link_of c.args.folder.now) inv.looks)) refl inv.same_cid inv.same_place

pub returns-in-Err : goal.returns-in-Err
returns-in-Err c =
    let inv = c.loop-block.invariant in
    let blocks = map (content_at c.args.bytes.now) c.args.blocks.now in
    stops c.in-Err.error (record {
      state = lookup_parts c.loop-block.lookup;
      block = c.bytes_at.result.now;
      named = inv.named;
      looks = inv.looks;
      is_block = ap (λ (index : ℕ). block_at index blocks) inv.deep
          ∙ block_there c.args.bytes.now c.args.blocks.now c.loop-block.block-index (record { offset = 0; len = 0 }) c.bytes_at.result.now c.bytes_at.ensures c.loop-block-test.true;
      fault = c.in-Err.ensures.why;
    }) c.stop_folder.ensures.status c.stop_folder.ensures.place inv.same_cid

pub loop-block-preserved : goal.loop-block-preserved
loop-block-preserved c =
    let inv = c.loop-block.invariant in
    let answers = subst (λ (s : LookupStep). Answers digest_by (lookup_parts c.loop-block.lookup) (lookup_parts c.take.new.self) s) c.in-Ok-Below.field-0-is c.in-Ok-Below.ensures.answers in record {
      looks = answers.1 (link_of c.args.folder.now) inv.looks;
      named = c.in-Ok-Below.ensures.name ∙ inv.named;
      deep = answers.0 ∙ ap suc inv.deep ∙ sym (add-one c.loop-block.block-index);
      within = omega (arith, c.loop-block-test.true);
      same_cid = inv.same_cid;
      same_place = inv.same_place;
    }

pub returns : goal.returns
returns c =
    let inv = c.loop-block.invariant in
    let blocks = map (content_at c.args.bytes.now) c.args.blocks.now in
    let wanted : Some (link_of c.in-Some.next) ≡ Some inv.looks.0 = ap (option_map link_of) (sym c.in-Some.is) ∙ c.wanted.ensures ∙ inv.looks.1 in
    let at : inv.looks.0 ≡ link_of c.in-Some.next = sym (same_Some (link_of c.in-Some.next) inv.looks.0 wanted) in
    let deep : c.loop-block.lookup.depth ≡ length blocks =
    inv.deep ∙ omega (arith, c.loop-block-test.false, inv.within) ∙ sym (length-map c.args.blocks.now (content_at c.args.bytes.now)) in
    let folder = link_of c.args.folder.now in
    asks (link_of c.in-Some.next)
    (subst (λ (l : Link). Descends digest_by folder c.args.name.now (length blocks) l) at
    (subst (λ (d : ℕ). Descends digest_by folder c.args.name.now d inv.looks.0) deep
    (subst (λ (name : List ℕ). Descends digest_by folder name c.loop-block.lookup.depth inv.looks.0) inv.named inv.looks.2)))
    refl c.of-in-Some.ensures inv.same_place
