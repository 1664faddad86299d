-- Document 02, K7: the rules of the calls on packed sheets, in the order of their tests. Number 19 is that of a bit past the last item; its
-- place is the word in its own sheet, and syndrome words come before loss words. The words of a syndrome are called `lit` here, those of
-- the losses `lost`. Assumes nothing.
use Rattle.std.specs.Prelude.{ℕ, Bool, ◌&&◌, List, [], ◌∷◌, ◌++◌, length, leb}
use Rattle.model.specs.declared.refusal.Refusal.TheVariants.{EndCount, PastLast}
use Rattle.model.specs.Board.{Board, edge_limit}
use Rattle.model.specs.Words.{word_count, past_last, unpacked_sheet}
use Rattle.model.specs.Refusals.{Rule, whole, each, Test, refusal_of, sized, edges_of, vertex_count_rule, length_rule, byte_rules, board_rules, open_rules}

-- Rule 2, of a count of edges that is given: there are at most 4,096.
abbrev pub edge_count_rule : ℕ → Rule
edge_count_rule m = whole (leb m edge_limit) EndCount

-- Rule 19: no bit past the last of n items is set.
unfoldable pub word_rule : ℕ → List ℕ → Rule
word_rule n words = each (length words) (past_last n words) (λ w. PastLast (record { 0 = w }))

unfoldable pub word_rules : ℕ → List ℕ → ℕ → List ℕ → List Rule
unfolding word_rule
word_rules n lit m lost = word_rule n lit ∷ word_rule m lost ∷ []

-- there are as many words as the vertices and the edges fill
abbrev pub words_sized : ℕ → ℕ → List ℕ → List ℕ → Bool
words_sized n m lit lost = sized lit (word_count n) && sized lost (word_count m)

-- Packing and unpacking are lent both counts, and bytes and words of both: packing fills the words, unpacking the bytes.
abbrev pub item_rules : ℕ → ℕ → List ℕ → List ℕ → List ℕ → List ℕ → List Rule
item_rules n m syndrome loss lit lost =
    vertex_count_rule n
    ∷ edge_count_rule m
    ∷ length_rule ((sized syndrome n && sized loss m) && words_sized n m lit lost)
    ∷ []

unfoldable pub pack_rules : ℕ → ℕ → List ℕ → List ℕ → List ℕ → List ℕ → List Rule
pack_rules n m syndrome loss lit lost =
    item_rules n m syndrome loss lit lost ++ byte_rules syndrome loss

unfoldable pub pack_refusal : ℕ → ℕ → List ℕ → List ℕ → List ℕ → List ℕ → Test
unfolding pack_rules
pack_refusal n m syndrome loss lit lost = refusal_of (pack_rules n m syndrome loss lit lost)

unfoldable pub unpack_rules : ℕ → ℕ → List ℕ → List ℕ → List ℕ → List ℕ → List Rule
unfolding word_rules
unpack_rules n m lit lost syndrome loss =
    item_rules n m syndrome loss lit lost ++ word_rules n lit m lost

unfoldable pub unpack_refusal : ℕ → ℕ → List ℕ → List ℕ → List ℕ → List ℕ → Test
unfolding unpack_rules
unpack_refusal n m lit lost syndrome loss = refusal_of (unpack_rules n m lit lost syndrome loss)

-- The lit total is lent the vertex count and the words of a syndrome, the list of lit vertices also a buffer to fill; `others` says that it
-- has its length, an entry for each vertex.
unfoldable pub lit_rules : ℕ → List ℕ → Bool → List Rule
unfolding word_rule
lit_rules n words others = vertex_count_rule n ∷ length_rule (sized words (word_count n) && others) ∷ word_rule n words ∷ []

unfoldable pub lit_refusal : ℕ → List ℕ → Bool → Test
unfolding lit_rules
lit_refusal n words others = refusal_of (lit_rules n words others)

-- Decoding of a packed sheet is lent a board, the words of both, and two buffers to fill. Rule 19 stands in the place of 7 and 8. It tests
-- for number 10 as decoding does.
abbrev pub packed_board_rules : Board → List ℕ → List ℕ → List ℕ → List ℕ → List Rule
packed_board_rules B lit lost support correction =
    let m = edges_of B.ends in
    board_rules B (words_sized B.vertices m lit lost && (sized support m && sized correction m))

-- 1, 2, 3, 4, 6 and 19 ..
unfoldable pub packed_rules : Board → List ℕ → List ℕ → List ℕ → List ℕ → List Rule
unfolding board_rules word_rules
packed_rules B lit lost support correction =
    packed_board_rules B lit lost support correction ++ word_rules B.vertices lit (edges_of B.ends) lost

-- .. and then 16 and 17, of the sheet that is packed
unfoldable pub decode_packed_rules : Board → List ℕ → List ℕ → List ℕ → List ℕ → List Rule
unfolding packed_rules unpacked_sheet
decode_packed_rules B lit lost support correction =
    packed_rules B lit lost support correction ++ open_rules (unpacked_sheet B lit lost)

unfoldable pub decode_packed_refusal : Board → List ℕ → List ℕ → List ℕ → List ℕ → Test
unfolding decode_packed_rules
decode_packed_refusal B lit lost support correction = refusal_of (decode_packed_rules B lit lost support correction)
