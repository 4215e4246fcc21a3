-- How the element for all responses declares namespaces.
use Rattle.std.proofs.Common.{◌≡◌, ℕ, ◌++◌, Bool, true, false, List, [], ◌∷◌, map, codes, if◌then◌else◌, Result, Ok, Err, refl, ap, ◌∙◌}
use Rattle.std.specs.Prelude.{IfOk, IsOkAnd}
use Rattle.std.specs.List.{list_any}
use Rattle.dav_core.specs.Element.{ElementTree, attributes_of, set_attribute, with_attributes, xmlns_name}
use Rattle.dav_engine.specs.Declaring.{declared, declares_namespaces, opened}
use Rattle.dav_engine.specs.Multistatus.{multistatus}
use Rattle.dav_engine.specs.Properties.{Telling, Requested, AllProperties, NamesAlone, Outcomes, Others, Space, apache_space, microsoft_space, is_in, declaration}

abbrev nextcloud_space : List ℕ
nextcloud_space = codes "http://nextcloud.org/ns"

abbrev owncloud_space : List ℕ
owncloud_space = codes "http://owncloud.org/ns"

abbrev declared_if : Bool → List ℕ → List ℕ → ElementTree → ElementTree
declared_if b prefix space e = if b then with_attributes e (set_attribute (xmlns_name prefix) space (attributes_of e)) else e

abbrev one_if : Bool → Space → List Space → List Space
one_if b s more = if b then s ∷ more else more

by_tests : (a z n o : Bool)
    → declared_if o (codes "oc") owncloud_space (declared_if n (codes "nc") nextcloud_space (declared_if z (codes "Z") microsoft_space (declared_if a (codes "A") apache_space (multistatus []))))
    ≡ with_attributes (multistatus []) (attributes_of (multistatus []) ++ map declaration (one_if a (codes "A", apache_space) (one_if z (codes "Z", microsoft_space) (one_if n (codes "nc", nextcloud_space) (one_if o (codes "oc", owncloud_space) [])))))
by_tests true true true true = refl
by_tests true true true false = refl
by_tests true true false true = refl
by_tests true true false false = refl
by_tests true false true true = refl
by_tests true false true false = refl
by_tests true false false true = refl
by_tests true false false false = refl
by_tests false true true true = refl
by_tests false true true false = refl
by_tests false true false true = refl
by_tests false true false false = refl
by_tests false false true true = refl
by_tests false false true false = refl
by_tests false false false true = refl
by_tests false false false false = refl

all_tests : (telling : Telling) (es : List ElementTree) → true ≡ declares_namespaces telling
    → declared (codes "oc") owncloud_space es (declared (codes "nc") nextcloud_space es (declared (codes "Z") microsoft_space es (declared (codes "A") apache_space es (multistatus []))))
    ≡ opened telling es
all_tests Requested es is = by_tests (list_any (is_in apache_space) es) (list_any (is_in microsoft_space) es) (list_any (is_in nextcloud_space) es) (list_any (is_in owncloud_space) es)
all_tests AllProperties es is = by_tests (list_any (is_in apache_space) es) (list_any (is_in microsoft_space) es) (list_any (is_in nextcloud_space) es) (list_any (is_in owncloud_space) es)
all_tests NamesAlone es is = by_tests (list_any (is_in apache_space) es) (list_any (is_in microsoft_space) es) (list_any (is_in nextcloud_space) es) (list_any (is_in owncloud_space) es)
all_tests Others es is = by_tests (list_any (is_in apache_space) es) (list_any (is_in microsoft_space) es) (list_any (is_in nextcloud_space) es) (list_any (is_in owncloud_space) es)
all_tests Outcomes es is = absurd (cc)

-- the four steps that declare namespaces
pub opened_is : (telling : Telling) (es : List ElementTree) (e0 e1 e2 e3 e4 : ElementTree) → true ≡ declares_namespaces telling → e0 ≡ multistatus []
    → e1 ≡ declared (codes "A") apache_space es e0 → e2 ≡ declared (codes "Z") microsoft_space es e1 → e3 ≡ declared (codes "nc") nextcloud_space es e2
    → e4 ≡ declared (codes "oc") owncloud_space es e3 → e4 ≡ opened telling es
opened_is telling es e0 e1 e2 e3 e4 is zero one two three four =
    four ∙ ap (declared (codes "oc") owncloud_space es) (three ∙ ap (declared (codes "nc") nextcloud_space es) (two ∙ ap (declared (codes "Z") microsoft_space es)
    (one ∙ ap (declared (codes "A") apache_space es) zero))) ∙ all_tests telling es is

-- the same where memory may have run out before
pub opened_by : {E : Type 0} (telling : Telling) (es : List ElementTree) (r0 r1 r2 r3 r4 : Result ElementTree E) → true ≡ declares_namespaces telling → IfOk r0 (λ e. e ≡ multistatus [])
    → IfOk r1 (λ e. IsOkAnd r0 (λ root. e ≡ declared (codes "A") apache_space es root)) → IfOk r2 (λ e. IsOkAnd r1 (λ root. e ≡ declared (codes "Z") microsoft_space es root))
    → IfOk r3 (λ e. IsOkAnd r2 (λ root. e ≡ declared (codes "nc") nextcloud_space es root)) → IfOk r4 (λ e. IsOkAnd r3 (λ root. e ≡ declared (codes "oc") owncloud_space es root))
    → IfOk r4 (λ e. e ≡ opened telling es)
opened_by telling es r0 r1 r2 r3 (Err e) is zero one two three four = tt
opened_by telling es r0 r1 r2 (Err e) (Ok e4) is zero one two three four = absurd four
opened_by telling es r0 r1 (Err e) (Ok e3) (Ok e4) is zero one two three four = absurd three
opened_by telling es r0 (Err e) (Ok e2) (Ok e3) (Ok e4) is zero one two three four = absurd two
opened_by telling es (Err e) (Ok e1) (Ok e2) (Ok e3) (Ok e4) is zero one two three four = absurd one
opened_by telling es (Ok e0) (Ok e1) (Ok e2) (Ok e3) (Ok e4) is zero one two three four = opened_is telling es e0 e1 e2 e3 e4 is zero one two three four

-- where outcomes are told, none is declared
pub opened_plain : (telling : Telling) (es : List ElementTree) (e : ElementTree) → false ≡ declares_namespaces telling → e ≡ multistatus [] → e ≡ opened telling es
opened_plain Outcomes es e is same = same
opened_plain Requested es e is same = absurd (cc)
opened_plain AllProperties es e is same = absurd (cc)
opened_plain NamesAlone es e is same = absurd (cc)
opened_plain Others es e is same = absurd (cc)

-- the same where memory may have run out before
pub opened_plain_by : {E : Type 0} (telling : Telling) (es : List ElementTree) (r : Result ElementTree E) → false ≡ declares_namespaces telling → IfOk r (λ e. e ≡ multistatus []) → IfOk r (λ e. e ≡ opened telling es)
opened_plain_by telling es (Ok e) is same = opened_plain telling es e is same
opened_plain_by telling es (Err e) is same = tt
