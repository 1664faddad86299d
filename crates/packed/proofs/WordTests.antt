-- The tests of the calls on packed sheets, one after the other, and what they say where none fails. Assumes nothing.
use Prim.Native.Nat.{ℕ, ◌≤◌, ◌<◌}
use mathlib.Core.Path.{◌≡◌, refl, sym, ◌∙◌}
use mathlib.Core.Bool.{Bool, true, false, ◌&&◌}
use mathlib.Core.List.{List, [], ◌∷◌}
use mathlib.Core.Option.{none, some}
use native.Mathlib.Omega.{arith}
use borrow.Author.Tests.{leb-true, eqb-true, le-leb, eq-eqb}
use lib.ListN.{length}
use lib.Dec.{leb}
use Rattle.std.specs.Prelude.{Option, Some, None}
use Rattle.std.specs.Option.{option_or}
use Rattle.std.proofs.lemmas.Bool.{false_from_ne_true}
use Rattle.model.specs.declared.numbers.Word.{Word}
use Rattle.model.specs.declared.refusal.Refusal.TheVariants.{VertexCount, EndCount, BufferLength, PastLast}
use Rattle.model.specs.Sums.{or_else, first_up_to}
use Rattle.model.specs.Board.{Board, ValidBytes, vertex_limit, edge_limit}
use Rattle.model.specs.Words.{word_count, past_last, unpacked_sheet}
use Rattle.model.specs.Refusals.{Rule, Test, tested, refusal_of, sized, edges_of, vertex_count_rule, length_rule, byte_rules, open_rules}
use Rattle.model.specs.WordRefusals.{word_rule, word_rules, words_sized, item_rules, pack_refusal, unpack_refusal, lit_refusal, packed_board_rules, packed_rules, decode_packed_refusal}
use Rattle.model.specs.Precedence.{here}
use Rattle.model.proofs.Xor.{and_left, and_right}
use Rattle.model.proofs.SumLaws.{first_none}
use Rattle.model.proofs.RuleLists.{unless_passes, refusal_append}
use Rattle.theory.proofs.Precedence.{none_exactly}
use Rattle.packed.specs.Found.{word_found}
use Rattle.board.proofs.Failures.{neither_fails, each_passes, passes_each}
use Rattle.board.proofs.Passing.{bytes_say, say_bytes}

-- One rule 19: n items fill the words, and no word has a bit past the last of them.
pub record WithinWords (n : ℕ) (words : List ℕ) : Type 0 where
  pub count : length words ≡ word_count n
  pub none_past : (w : ℕ) → w < length words → past_last n words w ≡ false

module _ (n : ℕ) (words : List ℕ) where
  words_say : length words ≡ word_count n → tested (word_rule n words) ≡ none → WithinWords n words
  unfolding word_rule
  words_say long p =
      record {
        count = long;
        none_past = λ w h.
            false_from_ne_true (past_last n words w) (λ past.
            (none_exactly (word_rule n words ∷ [])).0 (passes_each (word_rule n words ∷ []) (p, tt)) (PastLast (record { 0 = w }))
            (here (record { place = w; below = h; breaks = past; shows = refl })));
      }

  say_words : WithinWords n words → tested (word_rule n words) ≡ none
  unfolding word_rule
  say_words k = rw (first_none (length words) (past_last n words) k.none_past)

-- both of them
pub both_say : (n m : ℕ) (syndrome loss : List ℕ) → (length syndrome ≡ word_count n) × (length loss ≡ word_count m)
    → refusal_of (word_rules n syndrome m loss) ≡ none → WithinWords n syndrome × WithinWords m loss
unfolding word_rules
both_say n m syndrome loss long p =
    let e = each_passes (word_rules n syndrome m loss) p in
    (words_say n syndrome long.0 e.0, words_say m loss long.1 e.1.0)

pub say_both : {n m : ℕ} {syndrome loss : List ℕ} → WithinWords n syndrome → WithinWords m loss
    → refusal_of (word_rules n syndrome m loss) ≡ none
unfolding word_rules
say_both {n} {m} {syndrome} {loss} lit lost =
    passes_each (word_rules n syndrome m loss) (say_words n syndrome lit, (say_words m loss lost, tt))

-- the refusal for a word that a look finds
abbrev pub refusal_past : Option Word → Test
refusal_past (Some w) = some (PastLast w)
refusal_past None = none

-- Both rules 19: the syndrome's words decide, or else those of the losses.
module _ (n : ℕ) (lit : List ℕ) (m : ℕ) (lost : List ℕ) where
  pub syndrome_refused : {w : ℕ} → some w ≡ first_up_to (length lit) (past_last n lit)
      → some (PastLast (record { 0 = w })) ≡ refusal_of (word_rules n lit m lost)
  unfolding word_rules
  syndrome_refused p = rw (← p)

  pub loss_refused : {w : ℕ} → none ≡ first_up_to (length lit) (past_last n lit) → some w ≡ first_up_to (length lost) (past_last m lost)
      → some (PastLast (record { 0 = w })) ≡ refusal_of (word_rules n lit m lost)
  unfolding word_rules
  loss_refused p q = rw (← p, ← q)

  pub neither_refused : none ≡ first_up_to (length lit) (past_last n lit) → none ≡ first_up_to (length lost) (past_last m lost)
      → none ≡ refusal_of (word_rules n lit m lost)
  unfolding word_rules
  neither_refused p q = rw (← p, ← q)

  -- the first word that either look finds decides
  pub looks_say : (x y : Option Word) → word_found x ≡ first_up_to (length lit) (past_last n lit)
      → word_found y ≡ first_up_to (length lost) (past_last m lost) → refusal_past (option_or x y) ≡ refusal_of (word_rules n lit m lost)
  looks_say (Some w) y p q = syndrome_refused p
  looks_say None (Some w) p q = loss_refused p q
  looks_say None None p q = neither_refused p q

-- Packing and unpacking: both counts are in range, and every buffer has the length that its count gives.
pub record Items (n m : ℕ) (syndrome loss syndromeWords lossWords : List ℕ) : Type 0 where
  pub some_vertex : 1 ≤ n
  pub vertices_limited : n ≤ vertex_limit
  pub edges_limited : m ≤ edge_limit
  pub syndrome_long : length syndrome ≡ n
  pub loss_long : length loss ≡ m
  pub syndrome_words : length syndromeWords ≡ word_count n
  pub loss_words : length lossWords ≡ word_count m

-- .. and the bytes are 0 or 1
pub record ForPacking (n m : ℕ) (syndrome loss syndromeWords lossWords : List ℕ) : Type 0 where
  pub items : Items n m syndrome loss syndromeWords lossWords
  pub syndrome_bytes : ValidBytes n syndrome
  pub loss_bytes : ValidBytes m loss

-- .. and no word has a bit past the last item
pub record ForUnpacking (n m : ℕ) (syndromeWords lossWords syndrome loss : List ℕ) : Type 0 where
  pub items : Items n m syndrome loss syndromeWords lossWords
  pub syndrome_within : WithinWords n syndromeWords
  pub loss_within : WithinWords m lossWords

module _ (n m : ℕ) (syndrome loss syndromeWords lossWords : List ℕ) where
  -- the tests 1 to 3
  pub items_say : refusal_of (item_rules n m syndrome loss syndromeWords lossWords) ≡ none → Items n m syndrome loss syndromeWords lossWords
  items_say p =
      let e = each_passes (item_rules n m syndrome loss syndromeWords lossWords) p in
      let bytes = sized syndrome n && sized loss m in
      let words = words_sized n m syndromeWords lossWords in
      let one = unless_passes (leb 1 n && leb n vertex_limit) VertexCount e.0 in
      let fit = unless_passes (bytes && words) BufferLength e.1.1.0 in
      record {
        some_vertex = leb-true _ _ (and_left (leb 1 n) _ one);
        vertices_limited = leb-true _ _ (and_right (leb 1 n) _ one);
        edges_limited = leb-true _ _ (unless_passes (leb m edge_limit) EndCount e.1.0);
        syndrome_long = eqb-true _ _ (and_left (sized syndrome n) _ (and_left bytes words fit));
        loss_long = eqb-true _ _ (and_right (sized syndrome n) _ (and_left bytes words fit));
        syndrome_words = eqb-true _ _ (and_left (sized syndromeWords (word_count n)) _ (and_right bytes words fit));
        loss_words = eqb-true _ _ (and_right (sized syndromeWords (word_count n)) _ (and_right bytes words fit));
      }

  say_items : Items n m syndrome loss syndromeWords lossWords → refusal_of (item_rules n m syndrome loss syndromeWords lossWords) ≡ none
  say_items k =
      rw (
        le-leb _ _ k.some_vertex,
        le-leb _ _ k.vertices_limited,
        le-leb _ _ k.edges_limited,
        eq-eqb _ _ k.syndrome_long,
        eq-eqb _ _ k.loss_long,
        eq-eqb _ _ k.syndrome_words,
        eq-eqb _ _ k.loss_words,
      )

  -- what they allow the later ones to index
  pub items_allow : refusal_of (item_rules n m syndrome loss syndromeWords lossWords) ≡ none
      → (length syndrome ≤ vertex_limit) × (length loss ≤ edge_limit)
  items_allow p = let k = items_say p in (omega arith, omega arith)

  -- Packing: these, and then 7 and 8
  pub pack_tests : pack_refusal n m syndrome loss syndromeWords lossWords
      ≡ or_else (refusal_of (item_rules n m syndrome loss syndromeWords lossWords)) (refusal_of (byte_rules syndrome loss))
  unfolding pack_refusal
  pack_tests = refusal_append (item_rules n m syndrome loss syndromeWords lossWords) (byte_rules syndrome loss)

  pub pack_passes : pack_refusal n m syndrome loss syndromeWords lossWords ≡ none → ForPacking n m syndrome loss syndromeWords lossWords
  pack_passes p =
      let t = neither_fails (refusal_of (item_rules n m syndrome loss syndromeWords lossWords)) _ (sym pack_tests ∙ p) in
      let k = items_say t.0 in
      let e = each_passes (byte_rules syndrome loss) t.1 in
      record {
        items = k;
        syndrome_bytes = bytes_say n syndrome _ k.syndrome_long e.0;
        loss_bytes = bytes_say m loss _ k.loss_long e.1.0;
      }

  pub passes_pack : ForPacking n m syndrome loss syndromeWords lossWords → pack_refusal n m syndrome loss syndromeWords lossWords ≡ none
  passes_pack k =
      pack_tests
      ∙ rw (say_items k.items)
      (passes_each (byte_rules syndrome loss) (say_bytes n syndrome _ k.syndrome_bytes, (say_bytes m loss _ k.loss_bytes, tt)))

  -- Unpacking: these, and then 19
  pub unpack_tests : unpack_refusal n m syndromeWords lossWords syndrome loss
      ≡ or_else (refusal_of (item_rules n m syndrome loss syndromeWords lossWords)) (refusal_of (word_rules n syndromeWords m lossWords))
  unfolding unpack_refusal
  unpack_tests = refusal_append (item_rules n m syndrome loss syndromeWords lossWords) (word_rules n syndromeWords m lossWords)

  pub unpack_passes : unpack_refusal n m syndromeWords lossWords syndrome loss ≡ none
      → ForUnpacking n m syndromeWords lossWords syndrome loss
  unpack_passes p =
      let t = neither_fails (refusal_of (item_rules n m syndrome loss syndromeWords lossWords)) _ (sym unpack_tests ∙ p) in
      let k = items_say t.0 in
      let w = both_say n m syndromeWords lossWords (k.syndrome_words, k.loss_words) t.1 in
      record { items = k; syndrome_within = w.0; loss_within = w.1 }

  pub passes_unpack : ForUnpacking n m syndromeWords lossWords syndrome loss
      → unpack_refusal n m syndromeWords lossWords syndrome loss ≡ none
  passes_unpack k = unpack_tests ∙ rw (say_items k.items) (say_both k.syndrome_within k.loss_within)

-- The lit total and the list of lit vertices: 1 and 3, which say that the count is within its limit and that words and list have their
-- lengths ..
pub record LitCounted (n : ℕ) (words : List ℕ) (others : Bool) : Type 0 where
  pub vertices_limited : n ≤ vertex_limit
  pub words_long : length words ≡ word_count n
  pub fit : others ≡ true

-- .. and 19
pub record ForLit (n : ℕ) (words : List ℕ) (others : Bool) : Type 0 where
  pub counted : LitCounted n words others
  pub within : WithinWords n words

module _ (n : ℕ) (words : List ℕ) (others : Bool) where
  abbrev pub lit_counts : List Rule
  lit_counts = vertex_count_rule n ∷ length_rule (sized words (word_count n) && others) ∷ []

  pub lit_tests : lit_refusal n words others ≡ or_else (refusal_of lit_counts) (refusal_of (word_rule n words ∷ []))
  unfolding lit_refusal
  lit_tests = refusal_append lit_counts (word_rule n words ∷ [])

  -- once the count is in range the lengths decide, and then 19; i is the count of words
  pub lit_lengths : (i : ℕ) (fit : Bool) → 1 ≤ n → n ≤ vertex_limit → i ≡ word_count n → (sized words i && others) ≡ fit
      → lit_refusal n words others ≡ refusal_of (length_rule fit ∷ word_rule n words ∷ [])
  unfolding lit_refusal
  lit_lengths i fit some_vertex few p e = rw (le-leb _ _ some_vertex, le-leb _ _ few, ← p, e)

  -- .. which is held to the words
  pub lit_words : (i : ℕ) → i ≡ word_count n → (sized words i && others) ≡ true → length words ≡ word_count n
  lit_words i p e = eqb-true _ _ (and_left (sized words i) others e) ∙ p

  pub lit_counts_say : refusal_of lit_counts ≡ none → LitCounted n words others
  lit_counts_say p =
      let e = each_passes lit_counts p in
      let one = unless_passes (leb 1 n && leb n vertex_limit) VertexCount e.0 in
      let fit = unless_passes (sized words (word_count n) && others) BufferLength e.1.0 in
      record {
        vertices_limited = leb-true _ _ (and_right (leb 1 n) _ one);
        words_long = lit_words (word_count n) refl fit;
        fit = and_right (sized words (word_count n)) others fit;
      }

  pub lit_passes : lit_refusal n words others ≡ none → ForLit n words others
  lit_passes p =
      let t = neither_fails (refusal_of lit_counts) _ (sym lit_tests ∙ p) in
      let k = lit_counts_say t.0 in
      record { counted = k; within = words_say n words k.words_long (each_passes (word_rule n words ∷ []) t.1).0 }

-- Decoding of a packed sheet: 1 to 4 and 6 of the board, then 19, and then 16 and 17
module _ (B : Board) (syndrome loss support correction : List ℕ) where
  pub before_open_tests : refusal_of (packed_rules B syndrome loss support correction)
      ≡ or_else (refusal_of (packed_board_rules B syndrome loss support correction))
      (refusal_of (word_rules B.vertices syndrome (edges_of B.ends) loss))
  unfolding packed_rules
  before_open_tests =
      refusal_append (packed_board_rules B syndrome loss support correction) (word_rules B.vertices syndrome (edges_of B.ends) loss)

  pub packed_tests : decode_packed_refusal B syndrome loss support correction
      ≡ or_else (refusal_of (packed_rules B syndrome loss support correction)) (refusal_of (open_rules (unpacked_sheet B syndrome loss)))
  unfolding decode_packed_refusal
  packed_tests = refusal_append (packed_rules B syndrome loss support correction) (open_rules (unpacked_sheet B syndrome loss))
