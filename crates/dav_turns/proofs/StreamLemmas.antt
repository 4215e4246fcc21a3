-- Turns of a stream, one after another.
use Rattle.std.proofs.Common.{◌≡◌, ℕ, ◌+◌, List, [], ◌∷◌, ◌++◌, All, length, length-append, drop, append_assoc, append-nil, refl, sym, ap, ◌∙◌, subst, arith}
use Rattle.std.proofs.lemmas.List.Concat.{flat_map-append}
use Rattle.std.proofs.lemmas.List.Elements.{All-append, All-nil}
use Rattle.std.proofs.Math.Seq.{drop-append_seam}
use Rattle.std.specs.List.{flat_map}
use Rattle.dav_turns.specs.declared.config.TurnsConfig.{TurnsConfig}
use Rattle.dav_turns.specs.Connections.{TurnsView}
use Rattle.dav_turns.specs.Frames.{Order, ReportView, IsReport, ReadsReports, report_bytes}
use Rattle.dav_turns.specs.Turns.{Keeping, Server, server, Turn}
use Rattle.dav_turns.specs.Laws.{Event, Happens, turn_events}
use Rattle.dav_turns.specs.Streams.{StreamsAreTurns, TakesTurns}
use Rattle.dav_turns.proofs.SlotLemmas.{join, turn_happens}

-- all reports of turns
abbrev all_of : List (List ReportView) → List ReportView
all_of turns = flat_map (λ (ts : List ReportView). ts) turns

-- what bytes end with, is what is left once the others are dropped
dropped : (bytes front rest : List ℕ) (used : ℕ) → bytes ≡ front ++ rest → used + length rest ≡ length bytes → rest ≡ drop used bytes
dropped bytes front rest used are count =
    let many : used ≡ length front = omega (arith, count ∙ ap length are, length-append front rest) in
    sym (drop-append_seam front rest) ∙ ap (λ n. drop n (front ++ rest)) (sym many) ∙ ap (drop used) (sym are)

-- reports were read, and then more of what was left with what came since
reads_more : (came rest more after : List ℕ) (ts us : List ReportView) → ReadsReports came ts rest → ReadsReports (rest ++ more) us after
    → ReadsReports (came ++ more) (ts ++ us) after
reads_more came rest more after ts us first later = record {
  are = All-append IsReport ts us first.are later.are;
  bytes_are =
      ap (λ (b : List ℕ). b ++ more) first.bytes_are
      ∙ append_assoc (flat_map report_bytes ts) rest more
      ∙ ap (λ (b : List ℕ). flat_map report_bytes ts ++ b) later.bytes_are
      ∙ sym (append_assoc (flat_map report_bytes ts) (flat_map report_bytes us) after)
      ∙ ap (λ (b : List ℕ). b ++ after) (sym (flat_map-append report_bytes ts us));
}

module _ {S : Type 0} (k : Keeping S) where
  no_turn : (config : TurnsConfig) (s : Server S) → TakesTurns k config [] [] s s []
  no_turn config s = record {
    turns = [];
    reads = record { are = All-nil IsReport; bytes_are = refl };
    happens = (refl, refl);
  }

  next_turn : (came rest more : List ℕ) (used : ℕ) (old : Server S) (mid : TurnsView) (was : S) (new : TurnsView) (now : S) (orders later : List Order)
      → TakesTurns k mid.config came rest old (server mid.slots was) orders → Turn k (rest ++ more) used mid was new now later
      → TakesTurns k mid.config (came ++ more) (drop used (rest ++ more)) old (server new.slots now) (orders ++ later)
  next_turn came rest more used old mid was new now orders later so_far x =
      let ts : List ReportView = x.hears.long ++ x.hears.short in
      let all : List (List ReportView) = so_far.turns ++ ts ∷ [] in
      let last : ReadsReports (rest ++ more) ts (drop used (rest ++ more)) =
      subst (ReadsReports (rest ++ more) ts) (dropped (rest ++ more) (flat_map report_bytes ts) x.hears.rest used x.hears.reads.bytes_are x.hears.used_is) x.hears.reads in
      let reports : all_of all ≡ all_of so_far.turns ++ ts =
      flat_map-append (λ (us : List ReportView). us) so_far.turns (ts ∷ []) ∙ ap (λ (us : List ReportView). all_of so_far.turns ++ us) (append-nil ts) in
      let events : flat_map turn_events all ≡ flat_map turn_events so_far.turns ++ turn_events ts =
      flat_map-append turn_events so_far.turns (ts ∷ []) ∙ ap (λ (es : List Event). flat_map turn_events so_far.turns ++ es) (append-nil (turn_events ts)) in
      record {
        turns = all;
        reads = subst (λ (us : List ReportView). ReadsReports (came ++ more) us (drop used (rest ++ more))) (sym reports)
            (reads_more came rest more (drop used (rest ++ more)) (all_of so_far.turns) ts so_far.reads last);
        happens = subst (λ (es : List Event). Happens k mid.config es old (server new.slots now) (orders ++ later)) (sym events)
            (join k mid.config (flat_map turn_events so_far.turns) (turn_events ts) old (server mid.slots was) (server new.slots now) orders later so_far.happens
            (turn_happens k mid.config ts (server mid.slots was) (server new.slots x.last) now later x.hears.heard x.keeps));
      }

  pub streams_are_turns : StreamsAreTurns k
  streams_are_turns = record { first = no_turn; next = next_turn }
