-- A CAR is written section by section.
use Rattle.std.proofs.Common.{◌≡◌, ℕ, zero, suc, ◌+◌, ◌-◌, ◌≤◌, Bool, true, false, if◌then◌else◌, List, [], ◌∷◌, ◌++◌, length, Option, Some, None, refl, sym, ap, ap₂, subst, ◌∙◌, arith, append_assoc, append-nil, length-append}
use Rattle.std.proofs.KnownBytes.{Appends-nil, Appends-trans}
use Rattle.std.proofs.lemmas.List.{map-append}
use Rattle.std.specs.Prelude.{option_to_list}
use Rattle.std.specs.Io.KnownBytes.{Appends, Keeps}
use Rattle.std.specs.List.Sorted.{IsPermutation}
use Rattle.ipld_cid.specs.Cid.{Link, hash_of}
use Rattle.ipld_car.specs.CarHeader.{header_bytes}
use Rattle.ipld_car.specs.Index.{index_bytes}
use Rattle.ipld_car.specs.IndexGrouping.{entries_in, indexed, AreGrouped, IsSplit}
use Rattle.ipld_car.specs.IndexOrder.{AreSorted}
use Rattle.ipld_car.specs.Section.{Block, IsSection, AreSections}
use Rattle.ipld_car.specs.Writing.{WritesHeader, WritesSection}
use Rattle.ipld_car.specs.declared.index.CarIndex.{CarIndex}
use Rattle.ipld_car.specs.declared.index.entry.IndexEntry.{IndexEntry}
use Rattle.car_files.specs.Written.{section_len, sections_len}
use Rattle.car_files.proofs.Lengths.{sections_are}
use Rattle.car_files.proofs.Sections.{sections_more}
use Rattle.ipld_cli.specs.NewCar.{located, car_header, kept_cid, kept_cids, kept_from, rows_after, AreTaken, IsHeaderLen, IsTaken, NewBlocks, Puts, Sink, WritesCar, WritesIndexedCar, WritesNew, WritesNewIndexed, WritesPayload}
use Rattle.ipld_cli.specs.declared.collected_blocks.CollectedBlocks.{CollectedBlocks}

still : (a b c : Option (List ℕ)) (bytes : List ℕ) → Keeps b c → Appends a b bytes → Appends a c bytes
still None b c bytes k p = tt
still (Some xs) None c bytes k p = absurd p
still (Some xs) (Some ys) None bytes k p = absurd k
still (Some xs) (Some ys) (Some zs) bytes k p = k ∙ p

one_section : (bytes : List ℕ) (block : Block) → IsSection bytes block → AreSections bytes (block ∷ [])
one_section bytes block s = (bytes, [], sym (append-nil bytes), s, refl)

-- ---- where the sections begin

located_all : (begin : ℕ) (bs cs : List Block) → located begin (bs ++ cs) ≡ located begin bs ++ located (begin + sections_len bs) cs
located_all begin [] cs = ap (λ (n : ℕ). located n cs) (omega arith)
located_all begin (b ∷ bs) cs =
    ap (λ (es : List IndexEntry). record { hash = hash_of b.cid; offset = begin } ∷ es)
    (located_all (begin + section_len b) bs cs ∙ ap (λ (n : ℕ). located (begin + section_len b) bs ++ located n cs) (omega arith))

sections_len_all : (bs cs : List Block) → sections_len (bs ++ cs) ≡ sections_len bs + sections_len cs
sections_len_all [] cs = omega arith
sections_len_all (b ∷ bs) cs = ap (λ (n : ℕ). section_len b + n) (sections_len_all bs cs) ∙ omega arith

-- ---- blocks that are taken

taken_all : (u : Bool) (bs cs : List Block) → AreTaken u bs → AreTaken u cs → AreTaken u (bs ++ cs)
taken_all u [] cs t v = v
taken_all u (b ∷ bs) cs t v = (t.0, taken_all u bs cs t.1 v)

taken_anyway : (u : Bool) (bs : List Block) → AreTaken false bs → AreTaken u bs
taken_anyway u [] t = tt
taken_anyway u (b ∷ bs) t = (λ (e : u ≡ false). t.0 refl, taken_anyway u bs t.1)

-- ---- sections that are put

rows_all : (h : Bool) (rows : List IndexEntry) (end : ℕ) (bs cs : List Block)
    → rows_after h (rows_after h rows end bs) (end + sections_len bs) cs ≡ rows_after h rows end (bs ++ cs)
rows_all true rows end bs cs = append_assoc rows (located end bs) (located (end + sections_len bs) cs) ∙ ap (λ (es : List IndexEntry). rows ++ es) (sym (located_all end bs cs))
rows_all false rows end bs cs = refl

rows_none : (h : Bool) (rows : List IndexEntry) (end : ℕ) → rows ≡ rows_after h rows end []
rows_none true rows end = sym (append-nil rows)
rows_none false rows end = refl

pub puts_none : (h u : Bool) (state : Sink) → Puts h u [] state state
puts_none h u state = record {
  blocks = [];
  sections = [];
  are_sections = refl;
  have_cids = refl;
  are_taken = tt;
  appends = Appends-nil state.contents;
  end = omega arith;
  rows = rows_none h state.rows state.end;
}

pub puts_more : (h u : Bool) (cs ds : List Link) (old mid new : Sink) → Puts h u cs old mid → Puts h u ds mid new → Puts h u (cs ++ ds) old new
puts_more h u cs ds old mid new p q = record {
  blocks = p.blocks ++ q.blocks;
  sections = p.sections ++ q.sections;
  are_sections = sections_more p.sections q.sections p.blocks q.blocks p.are_sections q.are_sections;
  have_cids = map-append (λ (b : Block). b.cid) p.blocks q.blocks ∙ ap₂ (λ (xs ys : List Link). xs ++ ys) p.have_cids q.have_cids;
  are_taken = taken_all u p.blocks q.blocks p.are_taken q.are_taken;
  appends = Appends-trans old.contents mid.contents new.contents p.sections q.sections p.appends q.appends;
  end = q.end ∙ ap (λ (n : ℕ). n + sections_len q.blocks) p.end ∙ omega arith ∙ ap (λ (n : ℕ). old.end + n) (sym (sections_len_all p.blocks q.blocks));
  rows = q.rows ∙ ap₂ (λ (es : List IndexEntry) (n : ℕ). rows_after h es n q.blocks) p.rows p.end ∙ rows_all h old.rows old.end p.blocks q.blocks;
}

pub puts_anyway : (h u : Bool) (cs : List Link) (old new : Sink) → Puts h false cs old new → Puts h u cs old new
puts_anyway h u cs old new p = record {
  blocks = p.blocks;
  sections = p.sections;
  are_sections = p.are_sections;
  have_cids = p.have_cids;
  are_taken = taken_anyway u p.blocks p.are_taken;
  appends = p.appends;
  end = p.end;
  rows = p.rows;
}

pub puts_block : (h u : Bool) (old new : Sink) (block : Block) → IsTaken u block → WritesSection old.contents new.contents block → new.end ≡ old.end + section_len block
    → new.rows ≡ (if h then old.rows ++ record { hash = hash_of block.cid; offset = old.end } ∷ [] else old.rows) → Puts h u (block.cid ∷ []) old new
puts_block h u old new block t w e r = record {
  blocks = block ∷ [];
  sections = w.section;
  are_sections = one_section w.section block w.is_section;
  have_cids = refl;
  are_taken = (t, tt);
  appends = w.appends;
  end = e ∙ omega arith;
  rows = r;
}

-- ---- blocks that are kept

kept_all : (c : CollectedBlocks) (b m n : ℕ) → kept_from c b (m + n) ≡ kept_from c b m ++ kept_from c (b + m) n
kept_all c b m zero =
    let none : m + 0 ≡ m = omega arith in
    ap (kept_from c b) none ∙ sym (append-nil (kept_from c b m))
kept_all c b m (suc n) =
    let more : m + suc n ≡ suc (m + n) = omega arith in
    let place : b + (m + n) ≡ b + m + n = omega arith in
    ap (kept_from c b) more
    ∙ ap₂ (λ (xs : List Link) (k : ℕ). xs ++ option_to_list (kept_cid c k)) (kept_all c b m n) place
    ∙ append_assoc (kept_from c b m) (kept_from c (b + m) n) (option_to_list (kept_cid c (b + m + n)))

kept_none : (c : CollectedBlocks) (b : ℕ) → [] ≡ kept_cids c b b
kept_none c b = let none : 0 ≡ b - b = omega arith in ap (kept_from c b) none

kept_one : (c : CollectedBlocks) (b : ℕ) → option_to_list (kept_cid c b) ≡ kept_cids c b (b + 1)
kept_one c b =
    let one : 1 ≡ b + 1 - b = omega arith in
    let same : b ≡ b + 0 = omega arith in
    ap (λ (k : ℕ). option_to_list (kept_cid c k)) same ∙ ap (kept_from c b) one

kept_range : (c : CollectedBlocks) (b m e : ℕ) → b ≤ m → m ≤ e → kept_cids c b m ++ kept_cids c m e ≡ kept_cids c b e
kept_range c b m e p q =
    let parts : m - b + (e - m) ≡ e - b = omega arith in
    let place : m ≡ b + (m - b) = omega arith in
    ap (λ (k : ℕ). kept_cids c b m ++ kept_from c k (e - m)) place
    ∙ sym (kept_all c b (m - b) (e - m))
    ∙ ap (kept_from c b) parts

-- ---- kept blocks that are put

with_cids : (h u : Bool) (cs ds : List Link) (old new : Sink) → cs ≡ ds → Puts h u cs old new → Puts h u ds old new
with_cids h u cs ds old new e p = subst (λ (it : List Link). Puts h u it old new) e p

pub puts_empty : (h u : Bool) (c : CollectedBlocks) (b : ℕ) (state : Sink) → Puts h u (kept_cids c b b) state state
puts_empty h u c b state = with_cids h u [] (kept_cids c b b) state state (kept_none c b) (puts_none h u state)

pub puts_range : (h u : Bool) (c : CollectedBlocks) (b m e : ℕ) (old mid new : Sink) → b ≤ m → m ≤ e
    → Puts h u (kept_cids c b m) old mid → Puts h u (kept_cids c m e) mid new → Puts h u (kept_cids c b e) old new
puts_range h u c b m e old mid new l k p q =
    with_cids h u _ (kept_cids c b e) old new (kept_range c b m e l k) (puts_more h u (kept_cids c b m) (kept_cids c m e) old mid new p q)

pub puts_next : (h u : Bool) (c : CollectedBlocks) (b m : ℕ) (old mid new : Sink) → b ≤ m
    → Puts h u (kept_cids c b m) old mid → Puts h u (option_to_list (kept_cid c m)) mid new → Puts h u (kept_cids c b (m + 1)) old new
puts_next h u c b m old mid new l p q =
    puts_range h u c b m (m + 1) old mid new l (omega arith) p (with_cids h u _ _ mid new (kept_one c m) q)

pub puts_kept : (h u : Bool) (c : CollectedBlocks) (b : ℕ) (link : Link) (old new : Sink) → Some link ≡ kept_cid c b
    → Puts h u (link ∷ []) old new → Puts h u (option_to_list (kept_cid c b)) old new
puts_kept h u c b link old new e p = with_cids h u (link ∷ []) _ old new (ap option_to_list e) p

pub puts_left_out : (h u : Bool) (c : CollectedBlocks) (b : ℕ) (state : Sink) → None ≡ kept_cid c b → Puts h u (option_to_list (kept_cid c b)) state state
puts_left_out h u c b state e = with_cids h u [] _ state state (ap option_to_list e) (puts_none h u state)

pub puts_file : (h u : Bool) (c : CollectedBlocks) (b : ℕ) (link : Link) (old new : Sink) → Some link ≡ kept_cid c b
    → Puts h false (link ∷ []) old new → Puts h u (kept_cids c b (b + 1)) old new
puts_file h u c b link old new e p =
    with_cids h u _ _ old new (kept_one c b) (puts_kept h u c b link old new e (puts_anyway h u (link ∷ []) old new p))

pub puts_no_file : (h u : Bool) (c : CollectedBlocks) (b : ℕ) (state : Sink) → None ≡ kept_cid c b → Puts h u (kept_cids c b (b + 1)) state state
puts_no_file h u c b state e = with_cids h u _ _ state state (kept_one c b) (puts_left_out h u c b state e)

-- ---- the payload

pub payload_written : (h : Bool) (blocks : NewBlocks) (begin : ℕ) (old mid : Option (List ℕ)) (roots : List Link) (new : Sink) → WritesHeader old mid roots
    → Puts h blocks.is_unchecked blocks.cids (record { contents = mid; rows = []; end = begin }) new → new.end ≡ begin + blocks.size → WritesPayload h blocks begin old roots new
payload_written h blocks begin old mid roots new w p e = record {
  blocks = p.blocks;
  writes = record {
    header = w.header;
    sections = p.sections;
    is_header = w.is_header;
    is_canonical = w.is_canonical;
    are_sections = p.are_sections;
    appends = Appends-trans old mid new.contents w.header p.sections w.appends p.appends;
  };
  are_new = record {
    cids = p.have_cids;
    sized = let same : begin + sections_len p.blocks ≡ begin + blocks.size = sym p.end ∙ e in omega arith;
    are_taken = p.are_taken;
  };
  end = p.end;
  rows = p.rows;
}

kept_car : (old mid new : Option (List ℕ)) (roots : List Link) (blocks : List Block) → WritesCar old mid roots blocks → Keeps mid new → WritesCar old new roots blocks
kept_car old mid new roots blocks w k = record {
  header = w.header;
  sections = w.sections;
  is_header = w.is_header;
  is_canonical = w.is_canonical;
  are_sections = w.are_sections;
  appends = still old mid new (w.header ++ w.sections) k w.appends;
}

pub car_written : (h : Bool) (blocks : NewBlocks) (begin : ℕ) (old new : Option (List ℕ)) (roots : List Link) (sink : Sink) → WritesPayload h blocks begin old roots sink → Keeps sink.contents new
    → WritesNew blocks old new roots
car_written h blocks begin old new roots sink p k = record {
  blocks = p.blocks;
  writes = kept_car old sink.contents new roots p.blocks p.writes k;
  are_new = p.are_new;
}

-- ---- the whole

indexed_car : (old begun mid new end : Option (List ℕ)) (roots : List Link) (blocks : List Block) (begin size : ℕ) (rows : List IndexEntry) (index : CarIndex) (is_full : Bool)
    → IsHeaderLen roots begin → rows ≡ located begin blocks → size ≡ begin + sections_len blocks → IsPermutation (indexed rows) (entries_in index) → AreSorted (entries_in index) → AreGrouped index → IsSplit index
    → Appends old begun (header_bytes (car_header is_full size)) → WritesCar begun mid roots blocks → Appends mid new (index_bytes index) → Keeps new end
    → WritesIndexedCar old end roots blocks
indexed_car old begun mid new end roots blocks begin size rows index is_full h r l same sorted grouped split first w last kept =
    let one : h.header ≡ w.header = cc (sym h.is_canonical ∙ w.is_canonical) in
    let begins : begin ≡ length w.header = h.counted ∙ ap length one in
    let ends : size ≡ length (w.header ++ w.sections) =
    l ∙ ap₂ (λ (m n : ℕ). m + n) begins (sym (sections_are w.sections blocks w.are_sections)) ∙ sym (length-append w.header w.sections) in
    record {
      header = w.header;
      sections = w.sections;
      is_header = w.is_header;
      is_canonical = w.is_canonical;
      are_sections = w.are_sections;
      index = index;
      indexes = subst (λ (es : List IndexEntry). IsPermutation (indexed es) (entries_in index)) (r ∙ ap (λ (n : ℕ). located n blocks) begins) same;
      sorted = sorted;
      grouped = grouped;
      split = split;
      is_full = is_full;
      appends = still old new end _ kept (Appends-trans old begun new (header_bytes (car_header is_full (length (w.header ++ w.sections)))) ((w.header ++ w.sections) ++ index_bytes index)
          (subst (λ (n : ℕ). Appends old begun (header_bytes (car_header is_full n))) ends first)
          (Appends-trans begun mid new (w.header ++ w.sections) (index_bytes index) w.appends last));
    }

pub indexed_written : (blocks : NewBlocks) (old begun sunk new end : Option (List ℕ)) (roots : List Link) (begin size : ℕ) (sink : Sink) (index : CarIndex) (is_full : Bool)
    → IsHeaderLen roots begin → Appends old begun (header_bytes (car_header is_full size)) → WritesPayload true blocks begin begun roots sink → size ≡ begin + blocks.size → Keeps sink.contents sunk
    → IsPermutation (indexed sink.rows) (entries_in index) → AreSorted (entries_in index) → AreGrouped index → IsSplit index
    → Appends sunk new (index_bytes index) → Keeps new end → WritesNewIndexed blocks old end roots
indexed_written blocks old begun sunk new end roots begin size sink index is_full h first p e k same sorted grouped split last kept = record {
  blocks = p.blocks;
  writes = indexed_car old begun sunk new end roots p.blocks begin size sink.rows index is_full h p.rows (e ∙ ap (λ (n : ℕ). begin + n) (sym p.are_new.sized)) same sorted grouped split first
      (kept_car begun sink.contents sunk roots p.blocks p.writes k) last kept;
  are_new = p.are_new;
}
