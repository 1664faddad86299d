-- Document 02, K12: traps by hand. Gathered as one list, each proved by computation. Assumes nothing.
use Rattle.std.specs.Prelude.{ℕ, ◌+◌, ◌≡◌, refl, true, false, [], ◌∷◌}
use Rattle.std.proofs.Math.Option.{none, some}
use Rattle.model.specs.declared.refusal.Refusal.TheVariants.{BufferLength, LossByte, OpenByte, TrapEdges}
use Rattle.model.specs.Sums.{odd_up_to, count_up_to, some_up_to, first_up_to, values, ones}
use Rattle.model.specs.Board.{Board, board_of, without_open}
use Rattle.model.specs.Syndrome.{odd_end, syndrome}
use Rattle.model.specs.Winding.{closed, crossings, winds}
use Rattle.model.specs.Components.{labels_up_to, labels}
use Rattle.model.specs.Growth.{start, clusters, oddly_lit, holds_open, odd, exposed, boundary, choice_up_to, choice, swell, weighted, grow_from, grown}
use Rattle.model.specs.Forest.{taken_up_to, forest}
use Rattle.model.specs.Correction.{odd_side, spanned, odd_ends, correction}
use Rattle.model.specs.Decoding.{grown_by, peeled}
use Rattle.model.specs.Distance.{fewest_from, fewest_where}
use Rattle.model.specs.Torus.{torus_ends, torus_marks, torus}
use Rattle.model.specs.Planar.{planar_ends, planar_marks, planar_opens, planar}
use Rattle.model.specs.Refusals.{board_rules, trap_rules, trap_refusal}
use Rattle.model.specs.MarkedSheets.{ring, path, pair, point}
use Rattle.model.specs.GameSheets.{row}
use Rattle.model.specs.Traps.{traps, fewest_trap}
use Rattle.model.specs.TrapOutcomes.{ShowsTrap, Sets}
use Rattle.std.specs.Prelude.{Ok, None}

-- three edges in a ring, of which the last crosses line A
abbrev pub triangle : Board
triangle = without_open 3 (0 ∷ 1 ∷ 1 ∷ 2 ∷ 2 ∷ 0 ∷ []) (0 ∷ 0 ∷ 1 ∷ [])

-- a board of one vertex with so many loop edges, unmarked, and this open byte
abbrev pub petals : ℕ → ℕ → Board
petals m opened = board_of 1 (values (m + m) (λ i. 0)) (values m (λ i. 0)) (opened ∷ [])

pub record TrapSheets : Type 0 where
  -- no loop winds: there is no trap
  pub no_edge : fewest_trap point [] ≡ none
  pub no_loop : fewest_trap path (0 ∷ 0 ∷ 0 ∷ []) ≡ none
  -- of two edges the key is the first, and the other is the trap
  pub one_of_two : fewest_trap pair (0 ∷ 0 ∷ []) ≡ some 1
  pub first_right : traps pair (0 ∷ 0 ∷ []) (ones (1 ∷ 0 ∷ [])) ≡ false
  pub second_trapped : traps pair (0 ∷ 0 ∷ []) (ones (0 ∷ 1 ∷ [])) ≡ true
  -- where the second is lost, the key is the second
  pub lost_right : traps pair (0 ∷ 1 ∷ []) (ones (0 ∷ 1 ∷ [])) ≡ false
  pub lost_trapped : traps pair (0 ∷ 1 ∷ []) (ones (1 ∷ 0 ∷ [])) ≡ true
  -- two edges of a ring of three, of which the key is the third
  pub two_of_three : fewest_trap triangle (0 ∷ 0 ∷ 0 ∷ []) ≡ some 2
  pub two_shown : ShowsTrap triangle (0 ∷ 0 ∷ 0 ∷ []) 2 (1 ∷ 1 ∷ 0 ∷ [])
  -- half of a ring of four; where every edge is lost, one edge is enough
  pub half_ring : fewest_trap ring (0 ∷ 0 ∷ 0 ∷ 0 ∷ []) ≡ some 2
  pub lost_ring : fewest_trap ring (1 ∷ 1 ∷ 1 ∷ 1 ∷ []) ≡ some 1
  -- a loop edge that is marked: the key is empty
  pub torus_1 : fewest_trap (torus 1) (0 ∷ 0 ∷ []) ≡ some 1
  -- from open side to open side
  pub two_of_row : fewest_trap row (0 ∷ 0 ∷ 0 ∷ []) ≡ some 2
  pub planar_2 : fewest_trap (planar 2) (0 ∷ 0 ∷ 0 ∷ 0 ∷ 0 ∷ []) ≡ some 1
  -- where there is none, the set is all 0, whatever it was
  pub left_empty : Sets path (0 ∷ 0 ∷ 0 ∷ []) (1 ∷ 1 ∷ 1 ∷ []) (Ok None) (0 ∷ 0 ∷ 0 ∷ [])
  -- 16 edges pass, and 17 do not; 3 before 8 before 16 before 23
  pub sixteen : trap_refusal (petals 16 0) (values 16 (λ i. 0)) (values 16 (λ i. 9)) ≡ none
  pub seventeen : trap_refusal (petals 17 0) (values 17 (λ i. 0)) (values 17 (λ i. 9)) ≡ some TrapEdges
  pub open_first : trap_refusal (petals 17 2) (values 17 (λ i. 0)) (values 17 (λ i. 9)) ≡ some (OpenByte (record { 0 = 0 }))
  pub loss_first : trap_refusal (petals 17 2) (values 17 (λ i. 2)) (values 17 (λ i. 9)) ≡ some (LossByte (record { 0 = 0 }))
  pub set_short : trap_refusal (petals 17 2) (values 17 (λ i. 2)) (values 16 (λ i. 9)) ≡ some BufferLength
  pub loss_short : trap_refusal (petals 17 2) (values 16 (λ i. 2)) (values 17 (λ i. 9)) ≡ some BufferLength

pub trap_sheets : TrapSheets
unfolding odd_up_to count_up_to some_up_to first_up_to values odd_end syndrome closed crossings winds labels_up_to labels start clusters oddly_lit holds_open odd exposed boundary choice_up_to choice swell weighted grow_from grown taken_up_to forest odd_side spanned odd_ends correction grown_by peeled fewest_from fewest_where traps fewest_trap torus_ends torus_marks torus planar_ends planar_marks planar_opens planar board_rules trap_rules trap_refusal
trap_sheets =
    record {
      no_edge = refl;
      no_loop = refl;
      one_of_two = refl;
      first_right = refl;
      second_trapped = refl;
      lost_right = refl;
      lost_trapped = refl;
      two_of_three = refl;
      two_shown = record { set = ones (1 ∷ 1 ∷ 0 ∷ []); trap = refl; fewest = refl; written = refl };
      half_ring = refl;
      lost_ring = refl;
      torus_1 = refl;
      two_of_row = refl;
      planar_2 = refl;
      left_empty = refl;
      sixteen = refl;
      seventeen = refl;
      open_first = refl;
      loss_first = refl;
      set_short = refl;
      loss_short = refl;
    }
