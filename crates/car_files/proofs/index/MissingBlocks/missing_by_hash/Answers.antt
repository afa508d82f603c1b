use Rattle.std.proofs.Common.{rules, ◌≡◌, not, filter, map, refl, ap, ◌∙◌}
use Rattle.std.proofs.lemmas.Fn.{filter_same}
use Rattle.ipld_cid.specs.LinkOf.{link_of}
use Rattle.ipld_cid.specs.declared.cid.CidGeneric.{CidGeneric}
use Rattle.car_files.specs.Index.{has_hash, unlike_those}
use Rattle.car_files.proofs.Hashing.{unlike_all, unlike_once}
use Rattle.car_files.proofs.index.MissingBlocks.missing_by_hash.Goals as goal

pub returns-clause-once : goal.returns-clause-once
returns-clause-once c =
    let came = c.args.self.now.came in
    let p = λ (k : CidGeneric 64). not (has_hash (link_of k) came) in
    let kept : c.retain.new.self.items ≡ filter p c.in_ok-cids.cids.items = filter_same _ _ _ (λ x b f' k. search rules) _ _ c.retain.ensures.filtered in
    unlike_once came (map link_of c.in_ok-cids.cids.items) (map link_of c.retain.new.self.items) c.in_ok-cids.ensures.once
    (ap (map link_of) kept ∙ unlike_all c.in_ok-cids.cids.items p came (λ k. refl))

pub returns-clause-exactly : goal.returns-clause-exactly
returns-clause-exactly c =
    let came = c.args.self.now.came in
    let p = λ (k : CidGeneric 64). not (has_hash (link_of k) came) in
    let kept : c.retain.new.self.items ≡ filter p c.in_ok-cids.cids.items = filter_same _ _ _ (λ x b f' k. search rules) _ _ c.retain.ensures.filtered in
    ap (map link_of) kept ∙ unlike_all c.in_ok-cids.cids.items p came (λ k. refl) ∙ ap (unlike_those came) c.in_ok-cids.ensures.exactly
