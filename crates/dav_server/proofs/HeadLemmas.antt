-- What follows from the definition of heads alone.
use Rattle.std.proofs.Common.{◌≡◌, ℕ, ◌≤◌, List, [], ◌∷◌, length, map, take, All, sym, ap, ◌∙◌, refl, arith, length-append}
use Rattle.std.proofs.lemmas.List.Elements.{All-nil, All-cons, All-head, All-tail}
use Rattle.std.specs.List.{flat_map}
use Rattle.httparse.specs.Grammar.{Field, IsField, RequestHead, ReadsRequest, print_field, print_request, is_token_byte, is_value_byte, field_value}
use Rattle.httparse.specs.declared.spans.HeaderSpan.{HeaderSpan}
use Rattle.httparse.specs.declared.spans.RequestSpans.{RequestSpans}
use Rattle.httparse.specs.Spans.{name_and_value, IsRequestOf, IsRequestWithin}
use Rattle.httparse.proofs.GrammarLemmas.{request_unique}
use Rattle.httparse.proofs.TrimLemmas.{AllPass-trim_ows}
use Rattle.http_header.specs.FieldName.{IsFieldName}
use Rattle.http_header.specs.FieldValue.{IsFieldValue}
use Rattle.http_header.specs.Token as header
use Rattle.dav_server.specs.HeadInside.{AreHeadersOf}
use Rattle.dav_server.specs.Head.{AreFields, OneHead, request_of_head}

-- bytes are a head in one way at most
pub one_head : OneHead
one_head bytes a b (_, head, reads, _, is) (_, other, also, _, same) =
    is ∙ ap request_of_head (request_unique bytes head other [] [] reads also).0 ∙ sym same

-- the bytes of a token are those of a name
token_byte : (b : ℕ) → is_token_byte b ≡ header.is_token_byte b
unfolding is_token_byte header.is_token_byte
token_byte b = refl

-- a field of the grammar has a name and a value, if its name is short enough
one_field : (f : Field) → IsField f → length f.name ≤ 65535 → IsFieldName f.name × IsFieldValue (field_value f)
one_field f is short = (
  ((is.name.0, λ k d within. rw (← token_byte) (is.name.1 k d within)), short),
  AllPass-trim_ows is_value_byte f.raw is.raw,
)

-- and so have the fields of a section that isn't too long
all_fields : (fields : List Field) → All IsField fields → length (flat_map print_field fields) ≤ 65536 → AreFields (map name_and_value fields)
all_fields [] are fit = All-nil _
all_fields (f ∷ fields) are fit =
    let rest : length (flat_map print_field fields) ≤ 65536 = omega (arith, length-append {A = ℕ}) in
    let short : length f.name ≤ 65535 = omega (arith, length-append {A = ℕ}) in
    All-cons (λ field. IsFieldName field.0 × IsFieldValue field.1) (name_and_value f) (map name_and_value fields) (one_field f (All-head IsField f fields are) short) (all_fields fields (All-tail IsField f fields are) rest)

-- the section is a part of the head
section_fits : (h : RequestHead) → length (flat_map print_field h.fields) ≤ length (print_request h)
unfolding print_request
section_fits h = simp length-append (omega arith)

-- the fields of a head are names and values
pub fields_of_head : (bytes rest : List ℕ) (h : RequestHead) → ReadsRequest bytes h rest → length bytes ≤ 65536 → AreFields (map name_and_value h.fields)
fields_of_head bytes rest h (is, same) fits =
    all_fields h.fields is.fields (omega (arith, section_fits h, ap length same, length-append (print_request h) rest))

-- and so the headers that cover the fields of a head are its headers
pub headers_of_head : (head : List ℕ) (headers : List HeaderSpan) (spans : RequestSpans) → IsRequestOf head headers spans → IsRequestWithin head headers spans → spans.len ≡ length head → length head ≤ 65536 → AreHeadersOf head (take spans.headers headers)
headers_of_head head headers spans (h, is) within whole fits = record {
  within = rw (← whole) within.section.headers_fit;
  fields = rw is.fields (fields_of_head head _ h is.reads fits);
}
