use Rattle.std.proofs.Common.{ap, ◌∙◌, ◌++◌, List, ℕ}
use Rattle.ipld_car.specs.CarHeader.{header_bytes}
use Rattle.ipld_car.specs.Index.{index_bytes}
use Rattle.kombilad_c.proofs.car_index.around.Goals as goal

pub returns : goal.returns
returns c =
    let index = c.in_ok-index.index in record {
      index = index;
      same = c.in_ok-index.ensures.same;
      sorted = c.in_ok-index.ensures.sorted;
      grouped = c.in_ok-index.ensures.grouped;
      split = c.in_ok-index.ensures.split;
      written = c.in_ok-write_to.ensures
          ∙ ap (λ (bytes : List ℕ). bytes ++ index_bytes index) (c.in_ok-write_header.ensures ∙ ap (λ (bytes : List ℕ). bytes ++ header_bytes c.args.header.now) c.new-bytes.ensures.items);
    }
