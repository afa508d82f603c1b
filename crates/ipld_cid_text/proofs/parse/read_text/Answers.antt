use Rattle.std.proofs.Common.{◌+◌, sym, ap, ◌∙◌}
use Rattle.std.proofs.lemmas.List.{take_rest}
use Rattle.ipld_cid.specs.LinkOf.{link_of}
use Rattle.ipld_cid_text.specs.Text.{form_of}
use Rattle.ipld_cid_text.proofs.Reading.{match_map, text_found, text_error}
use Rattle.ipld_cid_text.proofs.parse.read_text.Goals as goal

pub returns-clause-why : goal.returns-clause-why
returns-clause-why c =
    let text = c.args.text.now in
    let path = c.path_len-path.result in
    let skip = c.in-Some.skip in
    let has = ap form_of (sym (take_rest text path)) ∙ (c.in-Some.ensures {u = tt}).0 in
    let are = take_rest text (path + skip) in
    match_map _ _ _ _ c.read_letters.result
    (λ cid h. text_found text c.in-Some.base c.in-Some.version path skip _ (link_of cid) c.path_len-path.ensures.len has are h)
    (λ e h. text_error text c.in-Some.base c.in-Some.version path skip _ e c.path_len-path.ensures.len has are h)
    c.read_letters.ensures.why
