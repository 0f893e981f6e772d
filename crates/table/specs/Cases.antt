-- The cases that document 01 marks P under "Both sides of each edge", and one statement that the definitions answer each as it says.
-- Assumes nothing.
use Rattle.std.specs.Prelude.{ℕ, ◌-◌, ◌≡◌, refl, List, [], ◌∷◌, map, set, replicate}
use Prim.Native.String.{String}
use Rattle.refusal.specs.Told.{Told, accepted, refused}
use Rattle.field.specs.Field.{p, first_over}
use Rattle.field.specs.Pair.{mul_pair, sub_pair}
use Rattle.field.specs.Answer.{of_elements, quad_answer}
use Rattle.instruction.specs.Decode.{decode_answer}
use Rattle.trace.specs.Counts.{room}
use Rattle.trace.specs.Outcome.{Lent, lent}
use Rattle.eval_circuit.specs.Circuit.{value_by, named_by, gate_answer, gates_answer}
use Rattle.eval_circuit.specs.Evaluated.{of_region, of_cells, eval_answer, eval_buffers}
use Rattle.field.specs.Lists.{each}
use Rattle.eval_circuit.specs.Listing.{memory}
use Rattle.numbers.specs.Form.{bytes_of, bytes_in}

pub data Question : Type 0 where
  decode : ℕ → Question
  times : List ℕ → List ℕ → Question
  minus : List ℕ → List ℕ → Question
  bytes : ℕ → Question
  evaluate : List ℕ → Question
  multiplicities : List ℕ → Question

pub record Case : Type 0 where
  pub name : String
  pub question : Question
  pub answer : Told

-- buffers for six wires, one READ and four EVAL nodes, and no cell more
abbrev exact_room : Lent
exact_room = lent (replicate 12 9) (replicate 6 9) (replicate 51 9)

-- of a memory: the listing's evaluation, and its counts from id 5 to id 0
abbrev pub ask : Question → Told
ask (decode v) = decode_answer v
ask (times a b) = quad_answer mul_pair a b
ask (minus a b) = quad_answer sub_pair a b
ask (bytes v) = accepted (bytes_of v)
ask (evaluate memory) = eval_answer 0 7 0 2 4 memory exact_room
ask (multiplicities memory) = accepted (eval_buffers 0 7 0 2 4 memory exact_room).counts

abbrev case : String → Question → Told → Case
case n q t = record { name = n; question = q; answer = t }

abbrev pub cases : List Case
cases =
    case "P1" (decode 0) (accepted (0 ∷ 0 ∷ 0 ∷ []))
    ∷ case "P2" (decode 2305843013508661253) (accepted (5 ∷ 4 ∷ 2 ∷ []))
    ∷ case "P3" (decode 1152921504606846975) (accepted (1073741823 ∷ 1073741823 ∷ 0 ∷ []))
    ∷ case "P4" (decode 3458764513820540928) (refused 8 0)
    ∷ case "P5" (decode (p - 1)) (refused 8 0)
    ∷ case "P6" (times (0 ∷ 1 ∷ []) (0 ∷ 1 ∷ [])) (accepted (7 ∷ 0 ∷ []))
    ∷ case "P7" (times (1 ∷ 2 ∷ []) (3 ∷ 4 ∷ [])) (accepted (59 ∷ 10 ∷ []))
    ∷ case "P8" (minus (0 ∷ 0 ∷ []) (1 ∷ 0 ∷ [])) (accepted ((p - 1) ∷ 0 ∷ []))
    ∷ case "P9" (bytes 128) (accepted (0x80 ∷ 0x01 ∷ []))
    ∷ case "P10" (bytes (p - 1)) (accepted (0x80 ∷ 0x80 ∷ 0x80 ∷ 0x80 ∷ 0xf0 ∷ 0xff ∷ 0xff ∷ 0xff ∷ 0xff ∷ 0x01 ∷ []))
    ∷ case "P11" (multiplicities memory) (accepted (2 ∷ 2 ∷ 2 ∷ 1 ∷ 1 ∷ 0 ∷ []))
    ∷ case "P12" (evaluate (set memory 7 2305843011361177601)) (refused 12 0)
    ∷ []

pub all_hold : map (λ (c : Case). ask c.question) cases ≡ map (λ (c : Case). c.answer) cases
unfolding decode_answer of_elements first_over bytes_of bytes_in eval_buffers eval_answer of_region of_cells room gates_answer gate_answer value_by named_by each
all_hold = refl
