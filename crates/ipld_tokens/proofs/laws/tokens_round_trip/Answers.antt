use Rattle.std.proofs.Common.{◌≡◌, [], sym, ◌∙◌}
use Rattle.std.proofs.lemmas.List.{append-nil}
use Rattle.ipld_tree.specs.TreeOf.{tree_of}
use Rattle.ipld_tokens.specs.TreeTokens.{tokens_of_tree}
use Rattle.ipld_tokens.specs.IpldSource.{tokens_left}
use Rattle.ipld_tokens.proofs.RoundTrip.{gives_first}
use Rattle.ipld_tokens.proofs.laws.tokens_round_trip.Goals as goal

pub returns : goal.returns
returns c =
    let tree = c.args.tree.now in
    gives_first c.read_ipld.result (λ read. tree_of read ≡ tree_of tree) (λ read. tokens_left c.read_ipld.new.source ≡ [])
    (c.read_ipld.ensures.tree (tree_of tree) [] (c.ipld_law.ensures tree) (rw c.in_ok-tokens.was at c.new.ensures.whole)
    (c.in_ok-tokens.ensures.tokens ∙ sym (append-nil (tokens_of_tree (tree_of tree)))))
