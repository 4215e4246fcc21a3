use Rattle.std.proofs.Common.{◌≡◌, ◌<◌, Err, List, ap, sym, subst, map, length, arith}
use Rattle.std.specs.List.{AllZip}
use Rattle.std.proofs.lemmas.List.{length-map}
use Rattle.std.proofs.lemmas.Result.{err_from_is_err_and}
use Rattle.dav_headers.specs.IfTokens.{Spells, Token}
use Rattle.dav_headers.specs.IfParts.{part_view}
use Rattle.dav_headers.specs.IfWritten.{WrittenList, ListsAt, SaysList}
use Rattle.dav_headers.specs.IfTexts.{list_view}
use Rattle.dav_headers.specs.IfView.{if_lists}
use Rattle.dav_headers.specs.Value.{ReadsAs}
use Rattle.dav_headers.specs.declared.errors.HeaderError.{HeaderError}
use Rattle.dav_headers.specs.declared.if_header.tokens.Part.{Part}
use Rattle.std.specs.Global.{Vec}
use Rattle.dav_headers.specs.declared.errors.HeaderError.TheVariants.{Invalid, Memory}
use Rattle.dav_headers.proofs.IfTokenLemmas.{none_from_test, many_from_test}
use Rattle.dav_headers.proofs.IfListLemmas.{same_error}
use Rattle.dav_headers.proofs.IfMeaningLemmas.{if_found, if_written, if_says}
use Rattle.dav_headers.proofs.if_header.read.Goals as goal

pub returns-in_err-parts-clause-invalid : goal.returns-in_err-parts-clause-invalid
returns-in_err-parts-clause-invalid c = λ e ls h.
    let p = err_from_is_err_and c.from_residual.result c.from_residual.ensures.1 in
    let invalid : c.in_err-parts.field-0.0 ≡ Invalid = same_error c.from_residual.result p.0 c.in_err-parts.field-0.0 p.1 p.2 e in
    let Q : HeaderError → Type 0 = λ d. ReadsAs (λ (v : Vec Part). map part_view v.items) Spells c.args.text.now (Err d) in
    let none : (ts : List Token) → ¬ Spells c.args.text.now ts = subst Q invalid c.in_err-parts.ensures in
    none h.0 h.1

pub returns-in_err-parts-clause-memory : goal.returns-in_err-parts-clause-memory
returns-in_err-parts-clause-memory c = λ e.
    let p = err_from_is_err_and c.from_residual.result c.from_residual.ensures.1 in
    let memory : c.in_err-parts.field-0.0 ≡ Memory = same_error c.from_residual.result p.0 c.in_err-parts.field-0.0 p.1 p.2 e in
    let Q : HeaderError → Type 0 = λ d. ReadsAs (λ (v : Vec Part). map part_view v.items) Spells c.args.text.now (Err d) in
    subst Q memory c.in_err-parts.ensures

pub returns-in_err-lists-clause-memory : goal.returns-in_err-lists-clause-memory
returns-in_err-lists-clause-memory c = λ e. (_, c.in_ok-parts.ensures)

pub returns-in_err-meant_lists-clause-memory : goal.returns-in_err-meant_lists-clause-memory
returns-in_err-meant_lists-clause-memory c = λ e. (_, c.in_ok-parts.ensures)

pub returns-in_err-lists-clause-invalid : goal.returns-in_err-lists-clause-invalid
returns-in_err-lists-clause-invalid c = λ e ls h.
    let p = err_from_is_err_and c.from_residual-in_err-lists.result c.from_residual-in_err-lists.ensures.1 in
    let invalid : c.in_err-lists.field-0.0 ≡ Invalid = same_error c.from_residual-in_err-lists.result p.0 c.in_err-lists.field-0.0 p.1 p.2 e in
    let (ws, at, says, some) = if_written _ _ ls c.in_ok-parts.ensures h in
    let P : List Token → Type 0 = λ x. ListsAt x ws in
    c.in_err-lists.ensures.none (ap Err invalid) ws (subst P (ap (map part_view) (sym c.deref.ensures.value)) at)

pub returns-then-is_empty-clause-invalid : goal.returns-then-is_empty-clause-invalid
returns-then-is_empty-clause-invalid c = λ e ls h.
    let P : List Token → Type 0 = λ x. ListsAt x (map list_view c.in_ok-lists.lists.items) in
    let at = subst P (ap (map part_view) c.deref.ensures.value) c.in_ok-lists.ensures.found in
    let (says, some) = if_says _ _ _ ls c.in_ok-parts.ensures at h in
    let none = none_from_test c.in_ok-lists.lists.items _ _ c.is_empty.ensures c.if-is_empty.true (omega (arith, c.in_ok-lists.lists.ok.0)) in
    omega (arith, some, ap length none, length-map c.in_ok-lists.lists.items list_view)

pub returns-in_err-meant_lists-clause-invalid : goal.returns-in_err-meant_lists-clause-invalid
returns-in_err-meant_lists-clause-invalid c = λ e ls h.
    let p = err_from_is_err_and c.from_residual-in_err-meant_lists.result c.from_residual-in_err-meant_lists.ensures.1 in
    let invalid : c.in_err-meant_lists.field-0.0 ≡ Invalid = same_error c.from_residual-in_err-meant_lists.result p.0 c.in_err-meant_lists.field-0.0 p.1 p.2 e in
    let P : List Token → Type 0 = λ x. ListsAt x (map list_view c.in_ok-lists.lists.items) in
    let at = subst P (ap (map part_view) c.deref.ensures.value) c.in_ok-lists.ensures.found in
    let (says, some) = if_says _ _ _ ls c.in_ok-parts.ensures at h in
    let Q : List WrittenList → Type 0 = λ x. AllZip SaysList x ls in
    c.in_err-meant_lists.ensures.invalid (ap Err invalid) ls (subst Q (ap (map list_view) (sym c.deref-2.ensures.value)) says)

pub returns-clause-ok : goal.returns-clause-ok
returns-clause-ok c =
    let P : List Token → Type 0 = λ x. ListsAt x (map list_view c.in_ok-lists.lists.items) in
    let at = subst P (ap (map part_view) c.deref.ensures.value) c.in_ok-lists.ensures.found in
    let Q : List WrittenList → Type 0 = λ x. AllZip SaysList x (if_lists record { 0 = c.in_ok-meant_lists.field-0 }) in
    let says = subst Q (ap (map list_view) c.deref-2.ensures.value) c.in_ok-meant_lists.ensures.ok in
    let some = many_from_test c.in_ok-lists.lists.items _ _ c.is_empty.ensures c.if-is_empty.false (omega (arith, c.in_ok-lists.lists.ok.0)) in
    let many : 0 < length (map list_view c.in_ok-lists.lists.items) = omega (arith, some, length-map c.in_ok-lists.lists.items list_view) in
    if_found _ _ _ _ c.in_ok-parts.ensures at says many
