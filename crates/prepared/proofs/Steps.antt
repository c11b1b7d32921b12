-- From what reading and laying out say to what is made ready. Assumes nothing.
use Prim.Native.Nat.{ℕ}
use native.Mathlib.Omega.{arith}
use mathlib.Core.Path.{◌≡◌, refl, sym, ap, ◌∙◌}
use mathlib.Core.List.{List}
use lib.ListN.{length, drop, replicate}
use Rattle.arith.specs.Pairs.{both}
use Rattle.arith.specs.Refusals.{Result, ok, refused}
use Rattle.shapes.specs.declared.LayoutConfig.{LayoutConfig}
use Rattle.shapes.specs.Settings.{setting_of}
use Rattle.sheet.specs.Sheet.{Sheet, max_members, read_sheet}
use Rattle.sheet.specs.Tables.{over, setting_words, types_words, members_words, offsets_words, held}
use Rattle.std.specs.Prelude.{Ok, Err}
use Rattle.arith.specs.InCode.{OrRefusal, err}
use Rattle.arith.specs.declared.refusal.Refusal.{Refusal}
use Rattle.reading.proofs.Told.{told_refused}
use Rattle.reading.specs.Reads.{told, words_in, into, ReadsInto}
use Rattle.records.specs.Records.{filling}
use Rattle.joined.proofs.Made.{setting_back}
use Rattle.prepared.specs.Prepared.{read_into, Prepares}

-- ---- read

module _ (input : List ℕ) {r : OrRefusal ℕ} {se ty me gi se' ty' me' gi' : List ℕ} (x : ReadsInto input r se ty me gi se' ty' me' gi')
    (six : length se ≡ 6) (many : length gi ≡ max_members) where
  same : into input se ty me gi ≡ read_into input ty me
  same = ap (λ (k : ℕ). held k (length ty) (length me) (length gi) (read_sheet input)) six ∙ ap (λ (k : ℕ). held 6 (length ty) (length me) k (read_sheet input)) many

  types : ty' ≡ over (words_in (λ s. types_words 0 s.types) (read_into input ty me)) ty
  types = x.types ∙ ap (λ (o : Result Sheet). over (words_in (λ s. types_words 0 s.types) o) ty) same

  members : me' ≡ over (words_in (λ s. members_words s.types) (read_into input ty me)) me
  members = x.members ∙ ap (λ (o : Result Sheet). over (words_in (λ s. members_words s.types) o) me) same

  pub refused_ready : (e : Refusal) → r ≡ Err e → (os la : List ℕ) → Prepares input (Err e) ty me os la ty' me' os la
  refused_ready e h os la =
      let o = told_refused (read_into input ty me) (sym h ∙ (x.answer ∙ ap told same)) in
      record { says = rw o; types = types; members = members; laid = rw o }

  -- ---- and laid out

  pub tables_ready : gi ≡ replicate max_members 0 → (n : ℕ) → r ≡ Ok n → {cfg : LayoutConfig} → cfg ≡ setting_of se'
      → {f : OrRefusal (Unit {0})} {os la os' la' : List ℕ} → both f (both os' la') ≡ filling cfg ty' me' gi' os la n
      → Prepares input (Ok record { cfg = cfg; n = n }) ty me os la ty' me' os' la'
  tables_ready zeros n h {cfg} c {f} {os} {la} {os'} {la'} g = by (read_into input ty me) refl
    where
      count_in : OrRefusal ℕ → ℕ
      count_in (Ok k) = k
      count_in (Err e) = 0

      by : (o : Result Sheet) → read_into input ty me ≡ o → Prepares input (Ok record { cfg = cfg; n = n }) ty me os la ty' me' os' la'
      by (refused m) e =
          absurd (let t : Ok n ≡ err m = sym h ∙ (x.answer ∙ ap told (same ∙ e)) in let z : ◌≡◌ {A = ℕ} 0 1 = cc in omega arith)
      by (ok s) e =
          let count : n ≡ length s.types = ap count_in (sym h ∙ (x.answer ∙ ap told (same ∙ e))) in
          let se_is : se' ≡ over (setting_words s.setting) se = x.setting ∙ ap (λ (o : Result Sheet). over (words_in (λ y. setting_words y.setting) o) se) (same ∙ e) in
          let setting : cfg ≡ s.setting = c ∙ (ap setting_of se_is ∙ setting_back s.setting (drop 6 se)) in
          let gi_is : gi' ≡ over (offsets_words s.types) (replicate max_members 0) =
          x.given ∙ (ap (λ (o : Result Sheet). over (words_in (λ y. offsets_words y.types) o) gi) (same ∙ e) ∙ ap (over (offsets_words s.types)) zeros) in
          record {
            says = rw (e, setting, count);
            types = types;
            members = members;
            laid = rw e (ap (λ (p : OrRefusal (Unit {0}) × (List ℕ × List ℕ)). p.1) g ∙ (rw (setting, count, gi_is)));
          }
