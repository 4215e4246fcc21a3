use Rattle.std.proofs.Common.{◌≡◌, ℕ, List, ◌∷◌, map, All, false, sym, ap, ◌∙◌}
use Rattle.std.proofs.lemmas.Bool.{cond-false}
use Rattle.std.proofs.lemmas.List.Elements.{All-tail}
use Rattle.httparse.specs.declared.spans.HeaderSpan.{HeaderSpan}
use Rattle.httparse.specs.Spans.{IsHeaderWithin, header_bytes}
use Rattle.dav_server.specs.Head.{is_same_name, values_of}
use Rattle.dav_server.proofs.head.ValuesIterator.next.Goals as goal

-- the headers after the first lie in the head too
within_tail : (n : ℕ) (h : HeaderSpan) (hs rest : List HeaderSpan) → rest ≡ h ∷ hs → All (IsHeaderWithin n) rest → All (IsHeaderWithin n) hs
within_tail n h hs rest is all = All-tail (IsHeaderWithin n) h hs (rw is at all)

-- a header with another name gives no value
passed_over : (name head : List ℕ) (h : HeaderSpan) (hs rest : List HeaderSpan) → rest ≡ h ∷ hs → is_same_name (header_bytes head h).0 name ≡ false → values_of name (map (header_bytes head) rest) ≡ values_of name (map (header_bytes head) hs)
passed_over name head h hs rest is other =
    ap (λ x. values_of name (map (header_bytes head) x)) is
    ∙ ap (map (λ field. field.1)) (cond-false (is_same_name (header_bytes head h).0 name) _ _ other)

pub invariant_of-self : goal.invariant_of-self
invariant_of-self c = within_tail _ _ _ _ c.in-Some.ensures.cases.0 c.loop-header.invariant.0

pub loop-header-preserved : goal.loop-header-preserved
loop-header-preserved c =
    let s = c.loop-header.self-inside in
    let other = ap (λ x. is_same_name x s.name.now) (sym c.of-name.ensures) ∙ sym c.if-is_same_name.ensures in
    let passed = passed_over s.name.now s.head.now c.in-Some.header.now c.in-Some.rest.now s.rest.now c.in-Some.ensures.cases.0 other in (
      within_tail _ _ _ _ c.in-Some.ensures.cases.0 c.loop-header.invariant.0,
      sym passed ∙ c.loop-header.invariant.1,
    )
