-- Which methods are served.
use Rattle.std.proofs.Common.{◌≡◌, ◌≢◌, ℕ, ◌+◌, ◌<◌, List, [], ◌∷◌, get_or, All, refl, sym, ap, subst, ◌∙◌, inl, inr, arith, rules}
use Rattle.std.proofs.lemmas.Bool.{cases_eq}
use Rattle.std.proofs.lemmas.List.Elements.{All-nil, All-cons}
use Rattle.dav_core.specs.Method.{place_of}
use Rattle.dav_server.specs.Method.{IsServed}
use Rattle.dav_core.specs.declared.method.DavMethod.{DavMethod}
use Rattle.dav_core.specs.declared.method.DavMethod.TheVariants.{Head, Get, Put, Patch, Options, PropFind, PropPatch, MkCol, Copy, Move, Delete, Lock, Unlock, Report, MkCalendar, MkAddressbook}
use Rattle.dav_core.specs.Path.{PathText}
use Rattle.dav_engine.specs.declared.request.Body.{Body}
use Rattle.dav_engine.specs.Caller.{Caller}
use Rattle.dav_engine.specs.Headers.{Headers}
use Rattle.dav_engine.specs.Method.{MethodPlan}
use Rattle.dav_engine.specs.Options.{options}
use Rattle.dav_engine.specs.Reply.{Reply}
use Rattle.dav_server.specs.Machine.{PlanOf, offers}

-- a method that is served is one of these
pub is_one : {A : Type 0} (m : DavMethod) → IsServed m → m ≢ Get → m ≢ Head → m ≢ Put → m ≢ Patch → m ≢ Options → m ≢ PropFind → m ≢ PropPatch → m ≢ MkCol → m ≢ Copy → m ≢ Move → m ≢ Delete → m ≢ Lock → m ≢ Unlock → A
is_one Head is g h p q o f t k c v d l u = absurd (h refl)
is_one Get is g h p q o f t k c v d l u = absurd (g refl)
is_one Put is g h p q o f t k c v d l u = absurd (p refl)
is_one Patch is g h p q o f t k c v d l u = absurd (q refl)
is_one Options is g h p q o f t k c v d l u = absurd (o refl)
is_one PropFind is g h p q o f t k c v d l u = absurd (f refl)
is_one PropPatch is g h p q o f t k c v d l u = absurd (t refl)
is_one MkCol is g h p q o f t k c v d l u = absurd (k refl)
is_one Copy is g h p q o f t k c v d l u = absurd (c refl)
is_one Move is g h p q o f t k c v d l u = absurd (v refl)
is_one Delete is g h p q o f t k c v d l u = absurd (d refl)
is_one Lock is g h p q o f t k c v d l u = absurd (l refl)
is_one Unlock is g h p q o f t k c v d l u = absurd (u refl)
is_one Report is g h p q o f t k c v d l u = absurd is
is_one MkCalendar is g h p q o f t k c v d l u = absurd is
is_one MkAddressbook is g h p q o f t k c v d l u = absurd is

-- a method that is served is among the first thirteen
pub served_within : (m : DavMethod) → IsServed m → place_of m < 13
served_within Head is = omega arith
served_within Get is = omega arith
served_within Put is = omega arith
served_within Patch is = omega arith
served_within Options is = omega arith
served_within PropFind is = omega arith
served_within PropPatch is = omega arith
served_within MkCol is = omega arith
served_within Copy is = omega arith
served_within Move is = omega arith
served_within Delete is = omega arith
served_within Lock is = omega arith
served_within Unlock is = omega arith
served_within Report is = absurd is
served_within MkCalendar is = absurd is
served_within MkAddressbook is = absurd is

-- the methods that are served, in their order
abbrev pub served : List DavMethod
served = Head ∷ Get ∷ Put ∷ Patch ∷ Options ∷ PropFind ∷ PropPatch ∷ MkCol ∷ Copy ∷ Move ∷ Delete ∷ Lock ∷ Unlock ∷ []

pub are_served : All IsServed served
are_served = search (rules, All-nil, All-cons) depth 16

-- a method is at its place
at_place : (m d : DavMethod) → place_of m < 13 → get_or served (place_of m) d ≡ m
at_place Head d within = refl
at_place Get d within = refl
at_place Put d within = refl
at_place Patch d within = refl
at_place Options d within = refl
at_place PropFind d within = refl
at_place PropPatch d within = refl
at_place MkCol d within = refl
at_place Copy d within = refl
at_place Move d within = refl
at_place Delete d within = refl
at_place Lock d within = refl
at_place Unlock d within = refl
at_place Report d within = absurd (omega arith)
at_place MkCalendar d within = absurd (omega arith)
at_place MkAddressbook d within = absurd (omega arith)

-- what holds of the methods before a place, and of the one there, holds of those up to it
pub one_more : (P : DavMethod → Type 0) (i : ℕ) (d : DavMethod) → i < 13 → ((m : DavMethod) → place_of m < i → P m) → P (get_or served i d) → (m : DavMethod) → place_of m < i + 1 → P m
one_more P i d few before here m within =
    elim (cases_eq (place_of m) i) [
      | inl e ↦ subst P (ap (λ k. get_or served k d) (sym e) ∙ at_place m d (omega (arith, e, few))) here
      | inr apart ↦ before m (omega (arith, within, apart))
    ]

-- the plan of an OPTIONS
pub offered_plan : {allowed : ℕ} {headers : Headers} {p : PathText} {body : Body} {who : Caller} {plan : MethodPlan Reply} → plan ≡ options allowed p → PlanOf allowed headers p body who Options plan
offered_plan {allowed} {headers} {p} {body} {who} same = subst (λ plan. PlanOf allowed headers p body who Options plan) (sym same) offers
