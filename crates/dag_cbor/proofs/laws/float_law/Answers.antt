use Rattle.std.proofs.Common.{false, sym, subst}
use Rattle.dag_cbor_format.specs.WithFloats.{EncodesIn}
use Rattle.dag_cbor_format.proofs.ErrorLaws.{error_in_lies, first_error_is, no_error_in}
use Rattle.dag_cbor_format.proofs.FloatLaws.{plain_item, has_encoding, item_encoded}
use Rattle.dag_cbor_format.proofs.FoundLinks.{read_is, read_only, read_without}
use Rattle.dag_cbor_format.proofs.LinkCuts.{positions_cut}
use Rattle.dag_cbor_format.proofs.SortedEvents.{block_sorted}
use Rattle.dag_cbor_format.proofs.CidLaws.{cid_laws}
use Rattle.dag_cbor_blocks.proofs.EventReads.{limits_where, tree_once}
use Rattle.dag_cbor.proofs.laws.float_law.Goals as goal

pub returns-clause-errors : goal.returns-clause-errors
returns-clause-errors c = no_error_in cid_laws

pub returns-clause-errors_of_bytes : goal.returns-clause-errors_of_bytes
returns-clause-errors_of_bytes c = error_in_lies

pub returns-clause-encoded_once : goal.returns-clause-encoded_once
returns-clause-encoded_once c = λ floats t u block s r.
    tree_once floats t u block s r

pub returns-clause-links : goal.returns-clause-links
returns-clause-links c = λ floats i t block encodes has.
    read_is cid_laws floats i t block encodes has

pub returns-clause-links_only : goal.returns-clause-links_only
returns-clause-links_only c = λ floats block links found.
    read_only cid_laws floats block links found

pub returns-clause-positions : goal.returns-clause-positions
returns-clause-positions c = λ floats block links positions read found.
    positions_cut cid_laws floats block links positions read found

pub returns-clause-sorted : goal.returns-clause-sorted
returns-clause-sorted c = λ floats i t block encodes has.
    block_sorted cid_laws floats i t block encodes has

pub returns-clause-limits : goal.returns-clause-limits
returns-clause-limits c = λ floats limits i t block encodes has.
    limits_where floats limits i t block encodes has

pub returns-clause-without_floats : goal.returns-clause-without_floats
returns-clause-without_floats c = λ i block. (
  λ e. (has_encoding false i block e, item_encoded i block e),
  λ e. subst (EncodesIn false i) (sym e.1) (plain_item false i e.0),
)

pub returns-clause-first_error : goal.returns-clause-first_error
returns-clause-first_error c = first_error_is

pub returns-clause-links_found : goal.returns-clause-links_found
returns-clause-links_found c = read_without
