use Rattle.std.proofs.Common.{ap, sym, ◌∙◌}
use Rattle.std.proofs.lemmas.Bool.{false≢true}
use Rattle.ipld_tree.specs.Tree.{entries}
use Rattle.ipld_tree.specs.TreeOf.{tree_of, members_of}
use Rattle.ipld_tree.proofs.Entries.{no_entries}
use Rattle.ipld_tree.proofs.Trees.{tree_of-Map}
use Rattle.ipld_tree.proofs.clone.IpldClone.clone.Goals as goal

pub returns-in_ok-emptied-in-None : goal.returns-in_ok-emptied-in-None
returns-in_ok-emptied-in-None c = record {
  cases = tree_of-Map c.in_ok-emptied-in-None.field-0
      ∙ ap (λ es. entries (members_of es)) (c.in_ok-emptied-in-None.ensures.0 ∙ sym (no_entries c.in-Map.members.entries (λ some. false≢true (c.in-None.ensures.variant.1 some))))
      ∙ sym (ap tree_of c.in-Map.is ∙ tree_of-Map c.in-Map.members);
}
