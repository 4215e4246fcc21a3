-- What the machine of chunks does over texts of the grammar of chunks (RFC 9112, section 7.1).
use Rattle.std.proofs.Common.{◌≡◌, ℕ, suc, ◌+◌, ◌-◌, ◌*◌, ◌^◌, ◌<◌, ◌≤◌, Bool, true, false, cond, eqb, List, [], ◌∷◌, ◌++◌, length, Option, Some, None, refl, ap, ◌∙◌, arith, length-append}
use Rattle.std.specs.Prelude.{flat_map, sum_by}
use Rattle.std.specs.List.{list_all, AllByRecursion}
use Rattle.std.proofs.lemmas.List.{append_assoc}
use Rattle.std.proofs.lemmas.List.Sums.{sum_by-cons}
use Rattle.std.proofs.lemmas.Bool.{and_parts, ne_eqb}
use Rattle.std.proofs.lemmas.Bool.Decides.{nat_tests}
use Rattle.std.specs.Char.{digit_value}
use Rattle.std.specs.Str.Parse.{digits_value_after, AllDigits}
use Rattle.httparse.specs.Grammar.{is_ows, is_value_byte, print_extension}
use Rattle.httparse.specs.Ascii.{crlf_bytes}
use Rattle.http1.specs.declared.chunked.State.{State}
use Rattle.http1.specs.declared.chunked.State.TheVariants.{Size, Blank, Extension, SizeLf, Data, DataCr, Done}
use Rattle.http1.specs.declared.chunked.ChunkedDecoder.{ChunkedDecoder}
use Rattle.http1.specs.ChunkedBody.{SizeLine, print_size_line, chunk_size, extension_text, IsSizeLine, Chunk, print_chunk, IsChunk, extension_len}
use Rattle.http1.specs.ChunkedDecoder.{decoder, start, step, skips, yields, use_of, Run, prepend, run}
use Rattle.http1.proofs.TextLemmas.{digits_value_after-ge}
use Rattle.http1.proofs.RunLemmas.{run-cons, run-nil, run_after, run_data_all, prepend-prepend}
use Rattle.dav_wire.specs.Laws.{ChunksStateTheirSizes}
use Rattle.dav_wire.specs.Refusals.{left_in}

-- a byte that is skipped, with the decoder that it leaves
skip : (d next : ChunkedDecoder) (b : ℕ) (bs : List ℕ) → use_of d.state ≡ skips → step d b ≡ next → run d (b ∷ bs) ≡ run next bs
skip d next b bs skipping e = run-cons skips d b bs skipping ∙ ap (λ x. run x bs) e

-- the state after a size line
abbrev pub after_line : ℕ → State
after_line size = cond (eqb size 0) Done (Data (size - 1))

step-start : (room b : ℕ) → digit_value b < 16 → step (start room) b ≡ decoder (Size (0 * 16 + digit_value b)) room
step-start room b digit = ap (λ s. decoder s room) (grind (arith, nat_tests))

step_digit : (n room b : ℕ) → digit_value b < 16 → n * 16 + digit_value b < 2 ^ 64 → step (decoder (Size n) room) b ≡ decoder (Size (n * 16 + digit_value b)) room
step_digit n room b digit fits = ap (λ s. decoder s room) (grind (arith, nat_tests))

step_blank : (n room b : ℕ) → is_ows b ≡ true → step (decoder (Blank n) room) b ≡ decoder (Blank n) room
step_blank n room b blank = ap (λ s. decoder s room) (grind (arith, nat_tests))

step_size_blank : (n room b : ℕ) → is_ows b ≡ true → step (decoder (Size n) room) b ≡ decoder (Blank n) room
step_size_blank n room b blank = ap (λ s. decoder s room) (grind (arith, nat_tests))

step_text : (n room b : ℕ) → is_value_byte b ≡ true → 0 < room → step (decoder (Extension n) room) b ≡ decoder (Extension n) (room - 1)
step_text n room b text some = grind (arith, nat_tests)

run_digits : (ds : List ℕ) (n room : ℕ) (rest : List ℕ) → AllDigits 16 ds → digits_value_after 16 n ds < 2 ^ 64 → run (decoder (Size n) room) (ds ++ rest) ≡ run (decoder (Size (digits_value_after 16 n ds)) room) rest
run_digits [] n room rest hex fits = refl
run_digits (d ∷ ds) n room rest hex fits =
    let grows = digits_value_after-ge 16 ds (n * 16 + digit_value d) (omega arith) in
    skip _ _ d _ refl (step_digit n room d hex.0 (omega arith)) ∙ run_digits ds _ room rest hex.1 fits

run_text : (text : List ℕ) (n room : ℕ) (rest : List ℕ) → list_all is_value_byte text ≡ true → length text ≤ room → run (decoder (Extension n) room) (text ++ (crlf_bytes ++ rest)) ≡ run (decoder (after_line n) (room - length text)) rest
run_text [] n room rest ok fits =
    let same : room ≡ room - 0 = omega arith in
    skip _ _ 13 _ refl refl ∙ skip _ _ 10 _ refl refl ∙ ap (λ r. run (decoder (after_line n) r) rest) same
run_text (b ∷ text) n room rest ok fits =
    let parts = and_parts _ _ ok in
    let same : room - 1 - length text ≡ room - suc (length text) = omega arith in
    skip _ _ b _ refl (step_text n room b parts.0 (omega arith))
    ∙ run_text text n (room - 1) rest parts.1 (omega arith)
    ∙ ap (λ r. run (decoder (after_line n) r) rest) same

-- the end of a size line, from a state that takes `;` and CR as `after_size` does
run_extension : (e : Option (List ℕ)) (s : State) (n room : ℕ) (rest : List ℕ) → use_of s ≡ skips → step (decoder s room) 59 ≡ decoder (Extension n) room → step (decoder s room) 13 ≡ decoder (SizeLf n) room → list_all is_value_byte (extension_text e) ≡ true → length (extension_text e) ≤ room → run (decoder s room) (print_extension e ++ (crlf_bytes ++ rest)) ≡ run (decoder (after_line n) (room - length (extension_text e))) rest
run_extension None s n room rest skipping semicolon cr ok fits =
    let same : room ≡ room - 0 = omega arith in
    skip _ _ 13 _ skipping cr ∙ skip _ _ 10 _ refl refl ∙ ap (λ r. run (decoder (after_line n) r) rest) same
run_extension (Some text) s n room rest skipping semicolon cr ok fits =
    skip _ _ 59 _ skipping semicolon ∙ run_text text n room rest ok fits

run_blanks : (blanks : List ℕ) (n room : ℕ) (rest : List ℕ) → list_all is_ows blanks ≡ true → run (decoder (Blank n) room) (blanks ++ rest) ≡ run (decoder (Blank n) room) rest
run_blanks [] n room rest ok = refl
run_blanks (b ∷ blanks) n room rest ok =
    let parts = and_parts _ _ ok in
    skip _ _ b _ refl (step_blank n room b parts.0) ∙ run_blanks blanks n room rest parts.1

-- what follows the digits
run_line_end : (blanks : List ℕ) (e : Option (List ℕ)) (n room : ℕ) (rest : List ℕ) → list_all is_ows blanks ≡ true → list_all is_value_byte (extension_text e) ≡ true → length (extension_text e) ≤ room → run (decoder (Size n) room) (blanks ++ (print_extension e ++ (crlf_bytes ++ rest))) ≡ run (decoder (after_line n) (room - length (extension_text e))) rest
run_line_end [] e n room rest blank ok fits = run_extension e (Size n) n room rest refl refl refl ok fits
run_line_end (b ∷ blanks) e n room rest blank ok fits =
    let parts = and_parts _ _ blank in
    skip _ _ b _ refl (step_size_blank n room b parts.0)
    ∙ run_blanks blanks n room _ parts.1
    ∙ run_extension e (Blank n) n room rest refl refl refl ok fits

run_first_digits : (ds : List ℕ) (room : ℕ) (rest : List ℕ) → 0 < length ds → AllDigits 16 ds → digits_value_after 16 0 ds < 2 ^ 64 → run (start room) (ds ++ rest) ≡ run (decoder (Size (digits_value_after 16 0 ds)) room) rest
run_first_digits [] room rest some hex fits = absurd (omega arith)
run_first_digits (d ∷ ds) room rest some hex fits =
    skip _ _ d _ refl (step-start room d hex.0) ∙ run_digits ds _ room rest hex.1 fits

run-size_line : (l : SizeLine) (room : ℕ) (rest : List ℕ) → IsSizeLine l → extension_len l ≤ room → run (start room) (print_size_line l ++ rest) ≡ run (decoder (after_line (chunk_size l)) (room - extension_len l)) rest
run-size_line l room rest ok fits =
    let regrouped : print_size_line l ++ rest ≡ l.digits ++ (l.blanks ++ (print_extension l.extension ++ (crlf_bytes ++ rest))) = simp append_assoc in
    ap (run (start room)) regrouped
    ∙ run_first_digits l.digits room _ ok.has_digit ok.hexadecimal ok.fits
    ∙ run_line_end l.blanks l.extension _ room rest ok.blank ok.text fits

run_chunk : (c : Chunk) (room : ℕ) (rest : List ℕ) → IsChunk c → extension_len c.line ≤ room → run (start room) (print_chunk c ++ rest) ≡ prepend c.bytes (run (start (room - extension_len c.line)) rest)
run_chunk c room rest ok fits =
    let left = room - extension_len c.line in
    let size = chunk_size c.line in
    let regrouped : print_chunk c ++ rest ≡ print_size_line c.line ++ (c.bytes ++ (crlf_bytes ++ rest)) = append_assoc (print_size_line c.line) _ rest ∙ ap (λ t. print_size_line c.line ++ t) (append_assoc c.bytes crlf_bytes rest) in
    let sized : length c.bytes ≡ size - 1 + 1 = omega (arith, ok.sized, ok.not_empty) in
    let not_last : eqb size 0 ≡ false = ne_eqb size 0 (omega (arith, ok.sized, ok.not_empty)) in
    ap (run (start room)) regrouped
    ∙ run-size_line c.line room _ ok.line fits
    ∙ ap (λ t. run (decoder (cond t Done (Data (size - 1))) left) (c.bytes ++ (crlf_bytes ++ rest))) not_last
    ∙ run_after _ _ c.bytes c.bytes _ (run_data_all c.bytes (size - 1) left sized)
    ∙ ap (prepend c.bytes) (skip _ _ 13 _ refl refl ∙ skip _ _ 10 _ refl refl)

abbrev full_len : List Chunk → ℕ
full_len cs = sum_by (λ c. extension_len c.line) cs

run_full : (cs : List Chunk) (room : ℕ) (rest : List ℕ) → AllByRecursion IsChunk cs → full_len cs ≤ room → run (start room) (flat_map print_chunk cs ++ rest) ≡ prepend (flat_map (λ c. c.bytes) cs) (run (start (room - full_len cs)) rest)
run_full [] room rest ok fits =
    let same : room ≡ room - 0 = omega arith in
    ap (λ r. run (start r) rest) same
run_full (c ∷ cs) room rest ok fits =
    let sum : full_len (c ∷ cs) ≡ extension_len c.line + full_len cs = sum_by-cons (λ c. extension_len c.line) c cs in
    let same : room - extension_len c.line - full_len cs ≡ room - full_len (c ∷ cs) = omega arith in
    ap (run (start room)) (append_assoc (print_chunk c) (flat_map print_chunk cs) rest)
    ∙ run_chunk c room _ ok.0 (omega arith)
    ∙ ap (prepend c.bytes) (run_full cs _ rest ok.1 (omega arith))
    ∙ prepend-prepend c.bytes _ _
    ∙ ap (λ r. prepend (flat_map (λ c. c.bytes) (c ∷ cs)) (run (start r) rest)) same

-- ---- what is stated

-- how much a run states: what it gave, and what it waits for
abbrev total : Run → ℕ
total r = length r.body + left_in r.ends.state

data_later : (t : Bool) (left room : ℕ) (bs : List ℕ) → eqb left 0 ≡ t → ((n : ℕ) → n + 1 ≤ total (run (decoder (Data n) room) bs))
    → left ≤ total (run (decoder (cond t DataCr (Data (left - 1))) room) bs)
data_later true left room bs none on = grind (arith, nat_tests)
data_later false left room bs some on = let states = on (left - 1) in grind (arith, nat_tests)

-- in a chunk's data it states all of that
data_total : (bs : List ℕ) (left room : ℕ) → left + 1 ≤ total (run (decoder (Data left) room) bs)
data_total [] left room = omega (arith, ap total (run-nil (decoder (Data left) room)))
data_total (b ∷ bs) left room =
    let later = data_later (eqb left 0) left room bs refl (λ n. data_total bs n room) in
    omega (arith, ap total (run-cons yields (decoder (Data left) room) b bs refl), later)

line_later : (t : Bool) (size room : ℕ) (bs : List ℕ) → eqb size 0 ≡ t → size ≤ total (run (decoder (cond t Done (Data (size - 1))) room) bs)
line_later true size room bs none = grind (arith, nat_tests)
line_later false size room bs some = let states = data_total bs (size - 1) room in grind (arith, nat_tests)

pub chunks_state_their_sizes : ChunksStateTheirSizes
chunks_state_their_sizes limits chunks line came full is fits =
    let room = limits.max_extensions_len in
    let left = room - full_len chunks in
    let all = run_full chunks room (print_size_line line ++ came) full (omega (arith, fits)) in
    let at = run-size_line line left came is (omega (arith, fits)) in
    let given = flat_map (λ (c : Chunk). c.bytes) chunks in
    let later = run (decoder (after_line (chunk_size line)) (left - extension_len line)) came in
    let states = line_later (eqb (chunk_size line) 0) (chunk_size line) (left - extension_len line) came refl in
    omega (arith, ap total all, ap (λ r. total (prepend given r)) at, length-append given later.body, states)
