-- How far a text has been read, and what one line more makes of that. No part of what a reader must believe: inner contracts name it.
-- Assumes nothing.
use Rattle.std.specs.Prelude.{ℕ, ◌≤◌, ◌≡◌, cond}
use Rattle.std.specs.declared.option.Option as answer
use Rattle.std.specs.Prelude.{Some, None}
use Rattle.std.proofs.Math.Option.{Option, none, some}
use Rattle.model.specs.Board.{vertex_limit, edge_limit}
use Rattle.model.specs.Text.{first_line}
use Rattle.model.specs.TextOutcomes.{Buffers}
use Rattle.text.specs.declared.line.Line.{Line}
use Rattle.text.specs.declared.order.Sofar.{Sofar}
use Rattle.text.specs.Order.{meant, may_stand}
use Rattle.text.specs.Scratch.{stored, edges_with}

-- a sheet so far of n vertices and m edges, after this line
abbrev pub sheet_after : ℕ → ℕ → Line → Sofar
sheet_after n m last = record { vertices = n; edges = m; last = last }

abbrev pub with_vertices : Option ℕ → Line → answer.Option Sofar
with_vertices none l = None
with_vertices (some n) l = Some (sheet_after n 0 l)

-- after the first line
abbrev pub begun_with : Line → answer.Option Sofar
begun_with l = with_vertices (first_line (meant l)) l

-- after one line more, which may stand or not by the open bytes so far too
abbrev pub taken : Sofar → Line → Buffers → answer.Option Sofar
taken s l old =
    cond (may_stand s.vertices s.edges old.opened (meant s.last) (meant l)) (Some (sheet_after s.vertices (edges_with s.edges (meant l)) l)) None

-- what that changes in the arrays
abbrev pub changed : Sofar → Line → Buffers → Buffers
changed s l old = cond (may_stand s.vertices s.edges old.opened (meant s.last) (meant l)) (stored s.edges (meant l) old) old

-- a sheet within the limits
abbrev pub Within : Sofar → Type 0
Within s = (s.vertices ≤ vertex_limit) × (s.edges ≤ edge_limit)

pub record Takes (s : Sofar) (l : Line) (old : Buffers) (r : answer.Option Sofar) (new : Buffers) : Type 0 where
  pub result : r ≡ taken s l old
  pub arrays : new ≡ changed s l old
