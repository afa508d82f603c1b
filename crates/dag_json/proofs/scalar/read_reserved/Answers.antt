use Rattle.std.proofs.Common.{sym, subst}
use Rattle.ipld_tree.specs.TreeOf.{members_of}
use Rattle.dag_json.specs.Objects.{only_tree, reserved_bytes}
use Rattle.dag_json.specs.ReadContract.{Makes}
use Rattle.dag_json.proofs.Scalars.{inside_map}
use Rattle.dag_json.proofs.scalar.read_reserved.Goals as goal

pub returns-in-Some-Map : goal.returns-in-Some-Map
returns-in-Some-Map c =
    subst (λ r. Makes r c.read_bytes_object.result) (sym (inside_map (members_of c.args.members.now.entries) c.in-Some-Map.field-0.now c.in-Some-Map.inner c.in-Some-Map.ensures c.in-Some-Map.field-0-is))
    (subst (λ m. Makes (reserved_bytes (only_tree (members_of m.entries))) c.read_bytes_object.result) c.in-Some-Map.inner-is c.read_bytes_object.ensures)
