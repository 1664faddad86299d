-- Document 01, "Numbers and places": what each call answers, its own value or a refusal. Assumes nothing.
use Rattle.std.specs.Prelude.{ℕ, Option, Result, Ok}
use Rattle.model.specs.declared.refusal.Refusal.{Refusal}
use Rattle.model.specs.declared.answers.Key.{Key}
use Rattle.model.specs.declared.answers.RoundsKey.{RoundsKey}
use Rattle.model.specs.declared.answers.Counts.{Counts}
use Rattle.model.specs.declared.answers.WordCounts.{WordCounts}
use Rattle.model.specs.declared.answers.Forced.{Forced}

-- decoding: a key
abbrev pub Decoded : Type 0
Decoded = Result Key Refusal

abbrev pub key_with : ℕ → ℕ → Decoded
key_with growths edges = Ok (record { growths = growths; edges = edges })

-- decoding in rounds: a key in rounds
abbrev pub RoundsDecoded : Type 0
RoundsDecoded = Result RoundsKey Refusal

abbrev pub rounds_with : ℕ → ℕ → RoundsDecoded
rounds_with rounds edges = Ok (record { rounds = rounds; edges = edges })

-- the distance, and the search for a trap: the fewest edges, or none
abbrev pub Distance : Type 0
Distance = Result (Option ℕ) Refusal

abbrev pub Trap : Type 0
Trap = Result (Option ℕ) Refusal

-- the builders of tori, planar boards and stacks: the vertex count
abbrev pub Built : Type 0
Built = Result ℕ Refusal

-- the reader of a text, and unpacking: both counts
abbrev pub Reading : Type 0
Reading = Result Counts Refusal

abbrev pub counts_with : ℕ → ℕ → Reading
counts_with vertices edges = Ok (record { vertices = vertices; edges = edges })

-- the writer of a text: the byte count
abbrev pub Written : Type 0
Written = Result ℕ Refusal

-- packing: how many words the syndrome and the losses fill
abbrev pub Packed : Type 0
Packed = Result WordCounts Refusal

abbrev pub word_counts_with : ℕ → ℕ → Packed
word_counts_with syndrome loss = Ok (record { syndrome = syndrome; loss = loss })

-- the lit total and the list of lit vertices: the total
abbrev pub Lit : Type 0
Lit = Result ℕ Refusal

-- the game: who can force the win
abbrev pub Game : Type 0
Game = Result Forced Refusal
