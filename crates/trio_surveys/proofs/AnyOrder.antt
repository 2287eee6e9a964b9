-- The bodies of a sound survey at their places, in any order, but for those that stand there already.
use Rattle.trio_surveys.proofs.Words.{◌∙◌, ◌∷◌, ◌≡◌, ◌⊎◌, Core, In, IsFit, List, Listed, Met, None, Option, Pick, Some, [], ap, arith, body_at_place, body_in_slot, both_ways, cases_Bool, cases_eq, children, flat_map-In, inl, inr, is_core, is_sound, option_map, page_of, refl, slice_get, survey, sym, true, with_bodies, ℕ}
use Rattle.trio_surveys.specs.SurveyLaws.{BodiesInAnyOrder}
use Rattle.trio_surveys.proofs.Cores.{page_is_core}
use Rattle.trio_surveys.proofs.Images.{root_or_listed}
use Rattle.trio_surveys.proofs.PageSlots.{page_by_slots, pages_same}
use Rattle.trio_surveys.proofs.Picked.{all_listed, bodies_are, listed_are_met, listed_no_root, listed_placed, same_place}
use Rattle.trio_surveys.proofs.Putting.{put_on, put_on-none, put_on-front, put_on-body, put_on-length, with_bodies-get, ArePlaced}
use Rattle.trio_surveys.proofs.Sheets.{page_from}
use Rattle.trio_surveys.proofs.Tree.{child_from, child_placed}

-- a file of the list has this place
abbrev pub HasPlace : ℕ → ℕ → List Met → Type 0
HasPlace p s ms = (c : Met) × In c ms × (c.page ≡ p) × (c.slot ≡ s)

first_place : (p s : ℕ) (m : Met) (ms : List Met) → ((m.page ≡ p) × (m.slot ≡ s) → ⊥) → (HasPlace p s ms → ⊥) → HasPlace p s (m ∷ ms) → ⊥
first_place p s m ms here later h = search arith

pub place_cases : (p s : ℕ) (ms : List Met) → HasPlace p s ms ⊎ (HasPlace p s ms → ⊥)
place_cases p s [] = inr (λ h. h.1)
place_cases p s (m ∷ ms) =
    elim (place_cases p s ms) [
      | inl c ↦ inl (c.0, inr c.1, c.2, c.3)
      | inr none ↦
          elim (cases_eq m.page p) [
            | inr off ↦ inr (first_place p s m ms (λ both. off both.0) none)
            | inl on ↦
                elim (cases_eq m.slot s) [
                  | inl at ↦ inl (m, inl refl, on, at)
                  | inr off ↦ inr (first_place p s m ms (λ both. off both.1) none)
                ]
          ]
    ]

module _ (core : Core) (pick : Pick) (fit : IsFit core) (sound : is_sound core pick ≡ true) where
  abbrev listed : List Met
  listed = all_listed core pick

  -- two files that are listed at one place have one body
  one_body : (x y : Met) → In x listed → In y listed → x.page ≡ y.page → x.slot ≡ y.slot → x.body ≡ y.body
  one_body x y i j page slot =
      let r = flat_map-In (children core pick) y (survey core pick) j in
      let k = child_from core pick r.0 y r.2 in
      let pl = child_placed core pick r.0 y k in
      let l : Listed = k.entry in
      let yp : y.page ≡ l.page = ap (λ (w : Met). w.page) k.is in
      let ys : y.slot ≡ l.slot = ap (λ (w : Met). w.slot) k.is in
      same_place core pick fit sound r.0 x k.file l.page l.slot pl.bytes l.entry r.1 k.read pl.block pl.page pl.says i (page ∙ yp) (slot ∙ ys)
      ∙ sym (same_place core pick fit sound r.0 y k.file l.page l.slot pl.bytes l.entry r.1 k.read pl.block pl.page pl.says j yp ys)

  -- a file is listed on a core page
  listed_core : (x : Met) → In x listed → is_core core.range x.page ≡ true
  listed_core x i =
      let r = flat_map-In (children core pick) x (survey core pick) i in
      let k = child_from core pick r.0 x r.2 in
      let pl = child_placed core pick r.0 x k in
      ap (λ (w : Met). is_core core.range w.page) k.is ∙ page_is_core core k.entry.page pl.bytes pl.page

  module _ (ms : List Met) (met : (m : Met) → In m ms → In m (survey core pick) × (m.ino ≡ 1 → ⊥)) (rest : (m : Met) → In m (survey core pick) → (m.ino ≡ 1 → ⊥) → In m ms ⊎ (m.body ≡ body_at_place core m.page m.slot)) where
    among_listed : (m : Met) → In m ms → In m listed
    among_listed m i =
        let r = met m i in
        elim (root_or_listed core pick fit sound m r.0) [
          | inl root ↦ absurd (r.1 (ap (λ (x : Met). x.ino) root))
          | inr j ↦ j
        ]

    placed : ArePlaced ms
    placed m i = listed_placed core pick fit sound m (among_listed m i)

    -- a listed file's body comes with these files, or stands in its slot already
    comes : (p s : ℕ) (bytes : List ℕ) (c : Met) → page_of core p ≡ Some bytes → In c listed → c.page ≡ p → c.slot ≡ s → (body_in_slot s bytes ≡ c.body) ⊎ HasPlace p s ms
    comes p s bytes c there i on at = search (arith, listed_are_met, listed_no_root)

    body_same : (p s : ℕ) (bytes : List ℕ) → page_of core p ≡ Some bytes → body_in_slot s (put_on p ms bytes) ≡ body_in_slot s (put_on p listed bytes)
    body_same p s bytes there =
        let full = fit.full p bytes there in
        let all = listed_placed core pick fit sound in
        elim (place_cases p s listed) [
          | inl c ↦
              let body : List ℕ = c.0.body in
              put_on-body p s ms bytes body placed full
              (λ m i on at. one_body m c.0 (among_listed m i) c.1 (on ∙ sym c.2) (at ∙ sym c.3))
              (comes p s bytes c.0 there c.1 c.2 c.3)
              ∙ sym (put_on-body p s listed bytes body all full
              (λ m i on at. one_body m c.0 i c.1 (on ∙ sym c.2) (at ∙ sym c.3))
              (inr c))
          | inr none ↦
              put_on-body p s ms bytes (body_in_slot s bytes) placed full (λ m i on at. absurd (none (m, among_listed m i, on, at))) (inl refl)
              ∙ sym (put_on-body p s listed bytes (body_in_slot s bytes) all full (λ m i on at. absurd (none (m, i, on, at))) (inl refl))
        ]

    core_page_same : (p : ℕ) (bytes : List ℕ) → page_of core p ≡ Some bytes → put_on p ms bytes ≡ put_on p listed bytes
    core_page_same p bytes there =
        let full = fit.full p bytes there in
        let all = listed_placed core pick fit sound in
        page_by_slots (put_on p ms bytes) (put_on p listed bytes) (put_on-length p ms bytes placed full) (put_on-length p listed bytes all full)
        (λ s low. (put_on-front p s ms bytes placed full ∙ sym (put_on-front p s listed bytes all full), body_same p s bytes there))

    page_same : (p : ℕ) (o : Option (Option (List ℕ))) → slice_get core.pages p ≡ o → option_map (option_map (put_on p ms)) o ≡ option_map (option_map (put_on p listed)) o
    page_same p None e = refl
    page_same p (Some None) e = refl
    page_same p (Some (Some bytes)) e =
        ap (λ x. Some (Some x))
        (elim (cases_Bool (is_core core.range p)) [
          | inl c ↦ core_page_same p bytes (page_from core p bytes c e)
          | inr off ↦
              let away : (m : Met) → In m listed → m.page ≡ p → ⊥ =
              λ m i on. both_ways (is_core core.range p) off (ap (is_core core.range) (sym on) ∙ listed_core m i) in
              put_on-none p ms bytes (λ m i on. away m (among_listed m i) on) ∙ sym (put_on-none p listed bytes away)
        ])

    pub any_order : with_bodies ms core.pages ≡ with_bodies (survey core pick) core.pages
    any_order =
        pages_same (with_bodies ms core.pages) (with_bodies listed core.pages)
        (λ p.
        with_bodies-get p ms core.pages (λ m i. (met m i).1)
        ∙ page_same p (slice_get core.pages p) refl
        ∙ sym (with_bodies-get p listed core.pages (listed_no_root core pick fit sound)))
        ∙ sym (bodies_are core pick fit sound)

pub bodies_in_any_order : BodiesInAnyOrder
bodies_in_any_order core pick ms fit sound met rest = any_order core pick fit sound ms met rest
