use Rattle.std.proofs.Common.{◌+◌, ◌%◌, ◌^◌, List, ℕ, slice_index, slice_set}
use Rattle.blake2b.proofs.Mixing.{add_at-wrapped, add_at-zero, mix-lines, rotate_at-is}
use Rattle.blake2b.proofs.compress.mix.Goals as goal

pub returns : goal.returns
returns c =
    let v = c.args.v.now in
    let a = c.args.a in
    let b = c.args.b in
    let c' = c.args.c in
    let d = c.args.d in
    let x = c.args.x in
    let y = c.args.y in
    let v1 : List ℕ = slice_set v a (((slice_index v a + slice_index v b) % 2 ^ 64 + x) % 2 ^ 64) in
    let v2 : List ℕ = slice_set v1 d c.rotate_right.result in
    let v3 : List ℕ = slice_set v2 c' ((slice_index v2 c' + slice_index v2 d) % 2 ^ 64) in
    let v4 : List ℕ = slice_set v3 b c.rotate_right-2.result in
    let v5 : List ℕ = slice_set v4 a (((slice_index v4 a + slice_index v4 b) % 2 ^ 64 + y) % 2 ^ 64) in
    let v6 : List ℕ = slice_set v5 d c.rotate_right-3.result in
    let v7 : List ℕ = slice_set v6 c' ((slice_index v6 c' + slice_index v6 d) % 2 ^ 64) in
    let v8 : List ℕ = slice_set v7 b c.rotate_right-4.result in
    mix-lines v v1 v2 v3 v4 v5 v6 v7 v8 a b c' d x y (add_at-wrapped v a b x) (rotate_at-is v1 d a 32 _ c.rotate_right.ensures)
    (add_at-zero v2 c' d) (rotate_at-is v3 b c' 24 _ c.rotate_right-2.ensures) (add_at-wrapped v4 a b y)
    (rotate_at-is v5 d a 16 _ c.rotate_right-3.ensures) (add_at-zero v6 c' d) (rotate_at-is v7 b c' 63 _ c.rotate_right-4.ensures)
