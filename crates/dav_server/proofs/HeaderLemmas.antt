-- The map of headers that fields give.
use Rattle.std.proofs.Common.{◌≡◌, ℕ, ◌+◌, ◌<◌, ◌≤◌, get_or, List, [], ◌∷◌, ◌++◌, length, map, bytes_eq, inl, inr, refl, sym, ap, ◌∙◌, arith, length-append, append_assoc}
use Rattle.std.proofs.lemmas.Bool.{cases_Bool}
use Rattle.std.proofs.lemmas.List.{map-append, length-map, get_or-map, append-nil}
use Rattle.std.proofs.lemmas.Slice.Eq.{bytes_eq-Decides}
use Rattle.std.proofs.lemmas.List.Sums.{sum_by-cons}
use Rattle.http_header.specs.HeaderMap.{Entries, RefusesAppend, append, append_all, get_all, value_count}
use Rattle.http_header.specs.FieldValue.{FieldValue, IsFieldValue, plain_value}
use Rattle.http_header.specs.Token.{lowercase}
use Rattle.http_header.proofs.HeaderMapLemmas.{get_all-append_same, get_all-append_other}
use Rattle.http_header.specs.FieldName.{IsFieldName}
use Rattle.httparse.specs.declared.spans.HeaderSpan.{HeaderSpan}
use Rattle.httparse.specs.Spans.{span_bytes, header_bytes}
use Rattle.dav_server.specs.HeadInside.{AreHeadersOf}
use Rattle.dav_server.specs.Head.{is_same_name, values_of}
use Rattle.dav_server.specs.Headers.{header_of, headers_of, KeepsValues}

module _ {X : Type 0} where
  -- one more field after a list is appended last
  pub append_all-append : (m : Entries X) (items : List (List ℕ × X)) (item : List ℕ × X) → append_all m (items ++ item ∷ []) ≡ append (append_all m items) item.0 item.1
  append_all-append m [] item = refl
  append_all-append m (x ∷ items) item = append_all-append (append m x.0 x.1) items item

  count_cons : (e : List ℕ × List X) (m : Entries X) → value_count (e ∷ m) ≡ length e.1 + value_count m
  count_cons e m = sum_by-cons (λ (x : List ℕ × List X). length x.1) e m

  -- one more value, under one more name at most
  count_more : (m : Entries X) (name : List ℕ) (value : X) → value_count (append m name value) ≡ value_count m + 1
  count_more [] name value = refl
  count_more (e ∷ m) name value =
      let here = count_cons e m in
      elim (cases_Bool (bytes_eq e.0 name)) [
        | inl t ↦
            let there = count_cons (e.0, e.1 ++ value ∷ []) m in
            let one = length-append e.1 (value ∷ []) in
            rw t (omega arith)
        | inr n ↦
            let there = count_cons e (append m name value) in
            let later = count_more m name value in
            rw n (omega arith)
      ]

  names_more : (m : Entries X) (name : List ℕ) (value : X) → length (append m name value) ≤ length m + 1
  names_more [] name value = omega arith
  names_more (e ∷ m) name value =
      elim (cases_Bool (bytes_eq e.0 name)) [
        | inl t ↦ rw t (omega arith)
        | inr n ↦ let later = names_more m name value in rw n (omega arith)
      ]

  pub value_count-append_all : (m : Entries X) (items : List (List ℕ × X)) → value_count (append_all m items) ≡ value_count m + length items
  value_count-append_all m [] = omega arith
  value_count-append_all m (x ∷ items) =
      let here = count_more m x.0 x.1 in
      let later = value_count-append_all (append m x.0 x.1) items in
      omega arith

  pub length-append_all : (m : Entries X) (items : List (List ℕ × X)) → length (append_all m items) ≤ length m + length items
  length-append_all m [] = omega arith
  length-append_all m (x ∷ items) =
      let here = names_more m x.0 x.1 in
      let later = length-append_all (append m x.0 x.1) items in
      omega arith

-- one more field is appended last
pub headers_of-append : (fields : List (List ℕ × List ℕ)) (field : List ℕ × List ℕ) → headers_of (fields ++ field ∷ []) ≡ append (headers_of fields) (lowercase field.0) (plain_value field.1)
headers_of-append fields field = rw map-append (append_all-append [] (map header_of fields) (header_of field))

-- there is room for one more value after fewer than 64 fields
pub has_room : (fields : List (List ℕ × List ℕ)) (name : List ℕ) → length fields < 64 → ¬ RefusesAppend (headers_of fields) name
has_room fields name few =
    let values = value_count-append_all [] (map header_of fields) in
    let names = length-append_all [] (map header_of fields) in
    let count : length (map header_of fields) ≡ length fields = length-map _ _ in
    λ full. elim full [
      | inl v ↦ omega arith
      | inr n ↦ elim n.1 [ inl k ↦ omega arith | inr v ↦ omega arith ]
    ]

-- the values of a name in a map and in the fields that are appended to it
values_behind : (m : Entries FieldValue) (name : List ℕ) (fields : List (List ℕ × List ℕ)) → get_all (append_all m (map header_of fields)) (lowercase name) ≡ get_all m (lowercase name) ++ map plain_value (values_of name fields)
values_behind m name [] = sym (append-nil _)
values_behind m name (f ∷ fields) =
    let later = values_behind (append m (lowercase f.0) (plain_value f.1)) name fields in
    let behind = map plain_value (values_of name fields) in
    elim (cases_Bool (is_same_name f.0 name)) [
      | inl t ↦
          let same = (bytes_eq-Decides (lowercase f.0) (lowercase name)).0 t in
          let here : get_all (append m (lowercase f.0) (plain_value f.1)) (lowercase name) ≡ get_all m (lowercase name) ++ plain_value f.1 ∷ [] = rw (← same) (get_all-append_same m (lowercase f.0) (plain_value f.1)) in
          rw t (later ∙ ap (λ (x : List FieldValue). x ++ behind) here ∙ append_assoc (get_all m (lowercase name)) (plain_value f.1 ∷ []) behind)
      | inr n ↦
          let here = get_all-append_other m (lowercase f.0) (lowercase name) (plain_value f.1) (λ e. let is = (bytes_eq-Decides (lowercase f.0) (lowercase name)).1 e in cc) in
          rw n (later ∙ ap (λ (x : List FieldValue). x ++ behind) here)
    ]

-- a name has the values of the fields with this name
pub keeps_values : KeepsValues
keeps_values name fields = values_behind [] name fields

-- each header of a head covers a name and a value
pub field_at : (head : List ℕ) (headers : List HeaderSpan) (i : ℕ) (d : HeaderSpan) → AreHeadersOf head headers → i < length headers → IsFieldName (span_bytes head (get_or headers i d).name) × IsFieldValue (span_bytes head (get_or headers i d).value)
field_at head headers i d are within =
    let is = are.fields i (header_bytes head d) (rw length-map within) in
    rw (get_or-map (header_bytes head) headers i d (header_bytes head d) within) at is
