-- Document 02, K1: stacks by hand, entry by entry, with a history, what is read of it, and a key. Gathered as one list, each proved by
-- computation.
-- Assumes nothing.
use Rattle.std.specs.Prelude.{ℕ, zero, suc, ◌≡◌, refl, List, [], ◌∷◌, ◌++◌}
use Rattle.std.proofs.Common.{arith}
use Rattle.model.specs.Sums.{Set, odd_up_to, count_up_to, some_up_to, first_up_to, values, ones, bytes, members}
use Rattle.model.specs.Board.{without_open, Sheet}
use Rattle.model.specs.Syndrome.{odd_end, syndrome}
use Rattle.model.specs.Winding.{crossings, winds}
use Rattle.model.specs.Components.{labels_up_to, labels}
use Rattle.model.specs.Growth.{start, clusters, oddly_lit, holds_open, odd, exposed, boundary, choice_up_to, choice, swell, weighted, grow_from, grown}
use Rattle.model.specs.Forest.{taken_up_to, forest}
use Rattle.model.specs.Correction.{odd_side, spanned, odd_ends, correction}
use Rattle.model.specs.Decoding.{parts, in_odd_part, smallest_odd, grown_by, peeled}
use Rattle.model.specs.Torus.{torus_ends, torus_marks, torus}
use Rattle.model.specs.Stack.{stack_vertices, stack_edges, stack_ends, stack_marks, stack, stack_syndrome}
use Rattle.model.specs.Histories.{History, read_by, events}
use Rattle.model.specs.Refusals.{decode_refusal}
use Rattle.model.specs.Outcomes.{key_or_none, decode_answer}
use Rattle.model.specs.MarkedSheets.{set_of, sheet, Keyed, EndFull}

-- Two layers of the torus of side 1: two loop edges in each, then the edge between them. Its one vertex is read wrongly in round 0.
abbrev pub one_twice : Sheet
one_twice = sheet (stack 1 2) (0 ∷ 1 ∷ []) []

-- the set of a list for each round; after the last one, no set
unfoldable pub by_round : List (List ℕ) → ℕ → Set
unfolding set_of
by_round [] k = set_of []
by_round (l ∷ ls) zero = set_of l
by_round (l ∷ ls) (suc k) = by_round ls k

-- Three rounds on the torus of side 2: vertex 1 is read wrongly in round 0; edge 0, from vertex 0 to vertex 1, flips in round 1, in which
-- vertex 3 is read wrongly; in round 2 nothing happens.
unfoldable pub three_rounds : History 2 3
unfolding by_round
three_rounds =
    record {
      flips = by_round ([] ∷ (0 ∷ []) ∷ [] ∷ []);
      wrong = by_round ((1 ∷ []) ∷ (3 ∷ []) ∷ [] ∷ []);
      last_right = λ k last v h. let two : k ≡ 2 = omega arith in rw two;
    }

-- what is read then, a byte for each stacked vertex
abbrev pub three_readings : List ℕ
three_readings = (0 ∷ 1 ∷ 0 ∷ 0 ∷ []) ++ (1 ∷ 1 ∷ 0 ∷ 1 ∷ []) ++ (1 ∷ 1 ∷ 0 ∷ 0 ∷ [])

pub record StackSheets : Type 0 where
  pub one_twice_lem : stack 1 2 ≡ without_open 2 (0 ∷ 0 ∷ 0 ∷ 0 ∷ 1 ∷ 1 ∷ 1 ∷ 1 ∷ 0 ∷ 1 ∷ []) (1 ∷ 2 ∷ 1 ∷ 2 ∷ 0 ∷ [])
  pub one_twice_key : Keyed one_twice 2 (4 ∷ [])
  pub one_twice_full : EndFull one_twice (0 ∷ 1 ∷ 4 ∷ [])
  pub two_layers :
      stack_ends 2 2
      ≡ (0 ∷ 1 ∷ 0 ∷ 2 ∷ 1 ∷ 0 ∷ 1 ∷ 3 ∷ 2 ∷ 3 ∷ 2 ∷ 0 ∷ 3 ∷ 2 ∷ 3 ∷ 1 ∷ [])
      ++ (4 ∷ 5 ∷ 4 ∷ 6 ∷ 5 ∷ 4 ∷ 5 ∷ 7 ∷ 6 ∷ 7 ∷ 6 ∷ 4 ∷ 7 ∷ 6 ∷ 7 ∷ 5 ∷ [])
      ++ (0 ∷ 4 ∷ 1 ∷ 5 ∷ 2 ∷ 6 ∷ 3 ∷ 7 ∷ [])
  pub two_layers_marks :
      stack_marks 2 2
      ≡ (0 ∷ 0 ∷ 1 ∷ 0 ∷ 0 ∷ 2 ∷ 1 ∷ 2 ∷ []) ++ (0 ∷ 0 ∷ 1 ∷ 0 ∷ 0 ∷ 2 ∷ 1 ∷ 2 ∷ []) ++ (0 ∷ 0 ∷ 0 ∷ 0 ∷ [])
  pub three_read :
      bytes 4 (read_by 2 3 three_rounds 0) ++ bytes 4 (read_by 2 3 three_rounds 1) ++ bytes 4 (read_by 2 3 three_rounds 2) ≡ three_readings
  pub three_events : members (stack_edges 2 3) (events 2 3 three_rounds) ≡ 8 ∷ 25 ∷ 31 ∷ []
  pub three_lit : members (stack_vertices 2 3) (ones (stack_syndrome 2 3 three_readings)) ≡ 1 ∷ 4 ∷ 7 ∷ 11 ∷ []
  pub three_meet : members (stack_vertices 2 3) (syndrome (stack 2 3) (events 2 3 three_rounds)) ≡ 1 ∷ 4 ∷ 7 ∷ 11 ∷ []

pub stack_sheets : StackSheets
unfolding members set_of sheet by_round three_rounds odd_up_to count_up_to some_up_to first_up_to values odd_end syndrome crossings winds labels_up_to labels start clusters oddly_lit holds_open odd exposed boundary choice_up_to choice swell weighted grow_from grown taken_up_to forest odd_side spanned odd_ends correction parts in_odd_part smallest_odd grown_by peeled torus_ends torus_marks torus stack_ends stack_marks stack stack_syndrome decode_refusal key_or_none decode_answer
stack_sheets =
    record {
      one_twice_lem = refl;
      one_twice_key = record { answers = refl; corrects = refl };
      one_twice_full = refl;
      two_layers = refl;
      two_layers_marks = refl;
      three_read = refl;
      three_events = refl;
      three_lit = refl;
      three_meet = refl;
    }
