use Rattle.unixfs_folders.proofs.Differing.{all_differ}
use Rattle.unixfs_folders.proofs.Listings.{listed_found, found_listed}
use Rattle.unixfs_folders.proofs.laws.listing_law.Goals as goal

pub returns : goal.returns
returns c = record {
  listed_is_found = listed_found;
  found_is_listed = found_listed c.parsed_law.ensures;
  all_differ = all_differ;
}
