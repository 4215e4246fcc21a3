use Rattle.std.proofs.Common.{◌≡◌, ◌==◌, ℕ, List, [], length, Some, true, false, sym, ap, ◌∙◌}
use Rattle.std.proofs.lemmas.Bool.{eqb-true}
use Rattle.std.proofs.lemmas.List.{append-nil, nil_from_length}
use Rattle.std.proofs.lemmas.Result.{err_from_is_err_and}
use Rattle.dav_core.specs.Locks.{Lock}
use Rattle.dav_core.specs.World.{World}
use Rattle.dav_saved.specs.Locks.{locks}
use Rattle.dav_saved.proofs.Fields.{some_is}
use Rattle.dav_http.proofs.SavedCalls.{fails_memory}
use Rattle.dav_http.proofs.handler.saved.parts_of.Goals as goal

-- the bytes behind a world that was read are those of the locks
behind : (w v : World) (bytes rest : List ℕ) → ◌≡◌ {A = World × List ℕ} (w, bytes) (v, rest) → rest ≡ bytes
behind w v bytes rest e = sym (ap (λ (p : World × List ℕ). p.1) e)

pub returns-in_err-ls-clause-back : goal.returns-in_err-ls-clause-back
returns-in_err-ls-clause-back c =
    let p = err_from_is_err_and c.from_residual-in_err-ls.result c.from_residual-in_err-ls.ensures.1 in
    λ w ls is fits listed bytes.
    let same = some_is (w, locks ls) (c.in_ok-fs.fs.world, c.in_ok-fs.rest.now) (c.in_ok-fs.ensures.back w (locks ls) is fits bytes) in
    let rest = behind w c.in_ok-fs.fs.world (locks ls) c.in_ok-fs.rest.now same in
    rw (p.1, p.2) (fails_memory c.in_err-ls.field-0.0 (ls, []) (c.in_err-ls.ensures.back ls [] listed (rest ∙ sym (append-nil (locks ls)))))

pub returns-then-not-is_empty-clause-back : goal.returns-then-not-is_empty-clause-back
returns-then-not-is_empty-clause-back c = λ w ls is fits listed bytes.
    let same = some_is (w, locks ls) (c.in_ok-fs.fs.world, c.in_ok-fs.rest.now) (c.in_ok-fs.ensures.back w (locks ls) is fits bytes) in
    let rest = behind w c.in_ok-fs.fs.world (locks ls) c.in_ok-fs.rest.now same in
    let pair = some_is (ls, []) (c.in_ok-ls.ls, c.in_ok-ls.rest.now) (c.in_ok-ls.ensures.back ls [] listed (rest ∙ sym (append-nil (locks ls)))) in
    let none : c.in_ok-ls.rest.now ≡ [] = sym (ap (λ (q : List Lock × List ℕ). q.1) pair) in
    let yes : c.is_empty.result ≡ true = c.is_empty.ensures ∙ ap (λ (b : List ℕ). length b == 0) none in
    let clash : true ≡ false = sym yes ∙ c.if-not-is_empty.true in cc

pub returns-clause-read : goal.returns-clause-read
returns-clause-read c =
    let empty : c.in_ok-ls.rest.now ≡ [] = nil_from_length c.in_ok-ls.rest.now (eqb-true (length c.in_ok-ls.rest.now) 0 (sym c.is_empty.ensures ∙ c.if-not-is_empty.false)) in
    (c.in_ok-fs.rest.now, c.in_ok-fs.ensures.exact.0, c.in_ok-ls.ensures.exact ∙ ap (λ (b : List ℕ). Some (c.in_ok-ls.ls, b)) empty)
