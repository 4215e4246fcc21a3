-- The head of a report in front of bytes.
use Rattle.std.proofs.Common.{◌≡◌, ◌++◌, ◌≤◌, ◌-◌, ℕ, List, length, take, drop, take-append-drop, length-drop, length-take, append_assoc, sym, ap, ◌∙◌, subst, arith}
use Rattle.std.proofs.lemmas.List.{take_all}
use Rattle.dav_turns.specs.Frames.{HasHead, IsHead, ReportView, BeginsWith, head_bytes}

-- the bytes begin with the head that was read in their first 25
pub has_head : (input head : List ℕ) (slot kind len seconds date : ℕ) → head ≡ take 25 input
    → head ≡ head_bytes slot kind len seconds date → IsHead slot len seconds date → HasHead input len
has_head input head slot kind len seconds date front is fits = record {
  slot = slot;
  kind = kind;
  seconds = seconds;
  date = date;
  head = fits;
  rest = drop 25 input;
  bytes_are = sym (take-append-drop 25 input) ∙ ap (λ h. h ++ drop 25 input) (sym front ∙ is);
}

-- they begin with a report, where as many more bytes came as its head tells
pub begins : (input head : List ℕ) (t : ReportView) (len : ℕ) → head ≡ take 25 input → head ≡ head_bytes t.slot t.kind len t.seconds t.date
    → IsHead t.slot len t.seconds t.date → len ≤ 65536 → len ≤ length (take (length input - 25) (drop 25 input))
    → t.bytes ≡ take len (take (length input - 25) (drop 25 input)) → BeginsWith input t
begins input head t len front is fits few within came =
    let all : take (length input - 25) (drop 25 input) ≡ drop 25 input =
    take_all (length input - 25) (drop 25 input) (omega (arith, length-drop 25 input)) in
    let bytes : t.bytes ≡ take len (drop 25 input) = came ∙ ap (take len) all in
    let whole : len ≡ length t.bytes =
    omega (arith, within, ap length came, length-take len (take (length input - 25) (drop 25 input))) in
    let more : List ℕ = drop len (drop 25 input) in
    record {
      is = record { head = subst (λ n. IsHead t.slot n t.seconds t.date) whole fits; few = omega (arith, whole, few) };
      more = more;
      bytes_are =
          sym (take-append-drop 25 input)
          ∙ ap (λ h. h ++ drop 25 input) (sym front ∙ is ∙ ap (λ n. head_bytes t.slot t.kind n t.seconds t.date) whole)
          ∙ ap (λ b. head_bytes t.slot t.kind (length t.bytes) t.seconds t.date ++ b)
          (sym (take-append-drop len (drop 25 input)) ∙ ap (λ b. b ++ more) (sym bytes))
          ∙ sym (append_assoc (head_bytes t.slot t.kind (length t.bytes) t.seconds t.date) t.bytes more);
    }
