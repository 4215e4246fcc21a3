use Rattle.std.proofs.Common.{◌≡◌, ◌≤◌, length, sym, ap, ◌∙◌, arith}
use Rattle.std.specs.Ordering.{nat_cmp}
use Rattle.dav_core.specs.Path.{Path}
use Rattle.dav_store.proofs.LoadedOrder.{cmp_end}
use Rattle.dav_store.proofs.names.Names.compare.Goals as goal

pub returns : goal.returns
returns c =
    let p = c.args.self.now in
    let q = c.args.other.now in
    let i = c.loop-i.i in
    let a = ap (λ (x : Path). length x) c.self.view_is in
    let b = ap (λ (x : Path). length x) c.other.view_is in
    let n : c.len-3.result ≡ length p = omega (arith, a, c.len-3.ensures) in
    let m : c.len-4.result ≡ length q = omega (arith, b, c.len-4.ensures) in
    let within-p : i ≤ length p = omega (arith, a, b, c.len.ensures, c.len-2.ensures, c.min-len.ensures) in
    let within-q : i ≤ length q = omega (arith, a, b, c.len.ensures, c.len-2.ensures, c.min-len.ensures) in
    c.cmp.ensures ∙ (λ t. nat_cmp (n t) (m t)) ∙ sym (cmp_end p q i within-p within-q (λ x y. omega (arith, a, b, c.len.ensures, c.len-2.ensures, c.min-len.ensures, x, y))) ∙ c.loop-i.invariant
