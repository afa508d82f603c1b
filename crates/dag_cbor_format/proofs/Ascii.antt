-- Bytes that are ASCII are UTF-8.
use Rattle.std.proofs.Common.{◌≡◌, ◌<◌, ℕ, true, List, nat_lt, slice_index_or, sym}
use Rattle.std.specs.List.{list_all, AllPass, All}
use Rattle.std.specs.Str.{IsUtf8}
use Rattle.std.proofs.lemmas.Bool.{ltb-true}
use Rattle.std.proofs.lemmas.List.Sums.{AllPass-from_list_all}
use Rattle.std.proofs.lemmas.Str.{IsUtf8-from_ascii}
use Rattle.std.proofs.lemmas.Str.Ascii.{IsAscii-from_all}

below : (bs : List ℕ) → AllPass (λ b. nat_lt b 128) bs → All (λ b. b < 128) bs
below bs h = λ k d inside.
    ltb-true (slice_index_or bs k d) 128 (h k d inside)

pub ascii_utf8 : (bs : List ℕ) → true ≡ list_all (λ b. nat_lt b 128) bs → IsUtf8 bs
ascii_utf8 bs h = IsUtf8-from_ascii bs (IsAscii-from_all bs (below bs (AllPass-from_list_all (λ b. nat_lt b 128) bs (sym h))))
