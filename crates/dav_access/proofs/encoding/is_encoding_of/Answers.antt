use Rattle.std.proofs.Common.{◌≡◌, ℕ, ◌+◌, ◌*◌, ◌^◌, ◌<◌, List, ◌++◌, get_or, slice_index, suc, take, drop, length, sym, ap, ◌∙◌, rules, arith, refl}
use Rattle.std.proofs.lemmas.List.{append_cancel_left}
use Rattle.std.specs.List.{flat_map}
use Rattle.dav_access.specs.Crypt.{bits_at, encoding_of, four_digits, groups}
use Rattle.dav_access.proofs.EncodingLemmas.{part_more, rest_is}
use Rattle.dav_access.proofs.encoding.is_encoding_of.Goals as goal

pub returns-in-None : goal.returns-in-None
unfolding encoding_of
returns-in-None c =
    let f : ℕ × ℕ × ℕ → List ℕ = λ g. four_digits (bits_at c.args.digest.now g) in
    let i = c.loop-group.group-index in
    let last : List ℕ = take 3 (four_digits (slice_index c.args.digest.now 31 * 2 ^ 8 + slice_index c.args.digest.now 30)) in
    let bits : c.bits_at.result ≡ bits_at c.args.digest.now (get_or groups i (0, 0, 0)) = c.bits_at.ensures in
    let part : c.as_slice.result.now ≡ f (get_or groups i (0, 0, 0)) = c.as_slice.ensures ∙ c.four_digits.ensures ∙ ap four_digits bits in
    let within : i < length groups = c.loop-group-test.true in (
      λ h. absurd (search rules),
      λ is.
          let rest = rest_is f groups c.args.text.now i (0, 0, 0) c.loop-group.rest.now last within c.loop-group.invariant.1 is in
          let more : List ℕ = flat_map f (drop (suc i) groups) ++ last in
          absurd (c.in-None.ensures more (rest ∙ ap (λ ys. ys ++ more) (sym part))),
    )

pub loop-group-preserved : goal.loop-group-preserved
loop-group-preserved c =
    let f : ℕ × ℕ × ℕ → List ℕ = λ g. four_digits (bits_at c.args.digest.now g) in
    let i = c.loop-group.group-index in
    let bits : c.bits_at.result ≡ bits_at c.args.digest.now (get_or groups i (0, 0, 0)) = c.bits_at.ensures in
    let part : c.as_slice.result.now ≡ f (get_or groups i (0, 0, 0)) = c.as_slice.ensures ∙ c.four_digits.ensures ∙ ap four_digits bits in (
      refl,
      part_more f groups c.args.text.now i (0, 0, 0) c.loop-group.rest.now c.in-Some.more.now c.loop-group-test.true c.loop-group.invariant.1
          (c.in-Some.ensures ∙ ap (λ ys. ys ++ c.in-Some.more.now) part),
    )

pub returns : goal.returns
unfolding encoding_of
returns c =
    let f : ℕ × ℕ × ℕ → List ℕ = λ g. four_digits (bits_at c.args.digest.now g) in
    let high : ℕ = slice_index c.args.digest.now 31 in
    let ten : c.loop-group.group-index ≡ 10 = omega arith in
    let last : take 3 c.four_digits-last.result ≡ take 3 (four_digits (high * 256 + slice_index c.args.digest.now 30)) =
    ap (take 3) (c.four_digits-last.ensures
    ∙ ap four_digits (ap (λ b. b * 256 + c.byte_at-2.result) c.byte_at.ensures.value ∙ ap (λ b. high * 256 + b) c.byte_at-2.ensures.value)) in
    let whole : c.args.text.now ≡ flat_map f groups ++ c.loop-group.rest.now =
    c.loop-group.invariant.1 ∙ ap (λ k. flat_map f (take k groups) ++ c.loop-group.rest.now) ten in (
      λ h.
          let same : c.loop-group.rest.now ≡ take 3 c.four_digits-last.result = search rules in
          whole ∙ ap (λ ys. flat_map f groups ++ ys) (same ∙ last),
      λ is.
          let same : c.loop-group.rest.now ≡ take 3 c.four_digits-last.result =
          append_cancel_left (flat_map f groups) c.loop-group.rest.now (take 3 (four_digits (high * 256 + slice_index c.args.digest.now 30))) (sym whole ∙ is)
          ∙ sym last in
          search rules,
    )
