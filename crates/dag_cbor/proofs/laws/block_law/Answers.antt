use Rattle.dag_cbor_format.proofs.ErrorLaws.{error_lies, no_error}
use Rattle.dag_cbor_format.proofs.TreeOfBlock.{encoded_once, decodes_encoded}
use Rattle.dag_cbor_format.proofs.CanonicalEncoding.{written_sorted}
use Rattle.dag_cbor_format.proofs.FoundLinks.{found_is, found_only}
use Rattle.dag_cbor_format.proofs.OnlySorted.{only_sorted}
use Rattle.dag_cbor.proofs.Ranges.{unwritten}
use Rattle.dag_cbor_format.proofs.CidLaws.{cid_laws}
use Rattle.dag_cbor.proofs.laws.block_law.Goals as goal

pub returns-clause-encoded_once : goal.returns-clause-encoded_once
returns-clause-encoded_once c = encoded_once cid_laws

pub returns-clause-decodes_encoded : goal.returns-clause-decodes_encoded
returns-clause-decodes_encoded c = decodes_encoded cid_laws

pub returns-clause-links : goal.returns-clause-links
returns-clause-links c = λ i t block encodes has.
    found_is cid_laws i t block encodes has

pub returns-clause-written_sorted : goal.returns-clause-written_sorted
returns-clause-written_sorted c = written_sorted cid_laws

pub returns-clause-only_sorted : goal.returns-clause-only_sorted
returns-clause-only_sorted c = only_sorted cid_laws

pub returns-clause-out_of_range : goal.returns-clause-out_of_range
returns-clause-out_of_range c = unwritten

pub returns-clause-links_only : goal.returns-clause-links_only
returns-clause-links_only c = found_only cid_laws

pub returns-clause-errors : goal.returns-clause-errors
returns-clause-errors c = no_error cid_laws

pub returns-clause-errors_of_bytes : goal.returns-clause-errors_of_bytes
returns-clause-errors_of_bytes c = error_lies
