use Rattle.dav_access.specs.Amounts.{giga, kilo, mega}
use Rattle.dav_access.proofs.AmountLemmas.{amount_is, only_giga, only_kilo, only_mega}
use Rattle.dav_access.proofs.amount.amount_of.Goals as goal

pub returns-in-Some : goal.returns-in-Some
returns-in-Some c =
    let ends = c.in-Some.ensures in
    amount_is c.args.word.now c.in-Some.digits.now 1024 _ (λ n t. kilo ends t) (λ n a. only_kilo c.args.word.now c.in-Some.digits.now n ends a) c.times.ensures

pub returns-in-Some-before : goal.returns-in-Some-before
returns-in-Some-before c =
    let ends = c.in-Some-before.ensures in
    amount_is c.args.word.now c.in-Some-before.digits.now 1048576 _ (λ n t. mega ends t) (λ n a. only_mega c.args.word.now c.in-Some-before.digits.now n ends a)
    c.times-in-Some-before.ensures

pub returns-in-Some-before-2 : goal.returns-in-Some-before-2
returns-in-Some-before-2 c =
    let ends = c.in-Some-before-2.ensures in
    amount_is c.args.word.now c.in-Some-before-2.digits.now 1073741824 _ (λ n t. giga ends t) (λ n a. only_giga c.args.word.now c.in-Some-before-2.digits.now n ends a)
    c.times-in-Some-before-2.ensures
