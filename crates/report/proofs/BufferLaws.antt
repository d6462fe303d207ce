-- The line in the buffer: the four columns and byte 10 at its front, and the bytes after the line stay.
use mathlib.Core.Path.{◌≡◌, refl, sym, ap, subst, ◌∙◌}
use mathlib.Core.Bool.{Bool, true, false}
use mathlib.Core.List.{List, [], ◌∷◌, ◌++◌, append_assoc}
use Prim.Native.Nat.{ℕ, ◌≤◌, ◌<◌}
use native.Mathlib.Omega.{arith}
use lib.Dec.{T}
use lib.IntN.{ℤ, pos, negsuc, nat_abs}
use lib.Signed.{le_z, le_z_yes}
use lib.Ieee.Bits.{is_true}
use lib.ListN.{length, drop, set, get_or}
use lib.Seq.{drop-cons, set_at}
use mir.Syntax.{w64}
use mir.Val.{SFits}
use mir.Facts.{to_z-of_z, and_yes}
use borrow.Author.Tests.{lt-ltb, le-ltb}
use Rattle.std.specs.Prelude.{Ok, Err}
use Rattle.std.specs.Result.{IsErrAnd}
use Rattle.integer.specs.Decimal.{right_justified}
use Rattle.integer.proofs.Order.{nonneg, pos_≤ℤ, ≤ℤ_pos}
use Rattle.integer.proofs.TestLaws.{yes_le_z}
use Rattle.scope.specs.Cases.Verdict.{Verdict}
use Rattle.report.specs.Report.{report_bytes, four_columns, report_line}
use Rattle.report.specs.Report.{most_decimals, Decimals, is_decimals}
use Rattle.report.specs.declared.ReportError.{ReportError}
use Rattle.report.specs.declared.ReportError.TheVariants.{OtherDecimals, ShortBuffer}
use Rattle.integer.proofs.Wide.{read}
use Rattle.report.specs.Buffer.{Written, reported, after_answer, after_report, Reports}

-- ---- the line

-- four columns one after another, and byte 10
pub columns_joined : {a b c e : List ℕ} (p q r s : List ℕ) → a ≡ right_justified 28 p → b ≡ right_justified 28 q
    → c ≡ right_justified 28 r → e ≡ right_justified 28 s
    → (a ++ (b ++ (c ++ (e ++ [])))) ++ (10 ∷ []) ≡ four_columns p q r s
unfolding four_columns
columns_joined p q r s i j k l = simp (i, j, k, l, append_assoc)

-- the columns over the front of a buffer, and byte 10 behind them
pub line_put : (now columns buffer : List ℕ) → now ≡ columns → length now ≡ 112 → 113 ≤ length buffer
    → set (now ++ drop 112 buffer) 112 10 ≡ columns ++ (10 ∷ drop 113 buffer)
line_put now columns buffer e l h =
    ap (λ x. set (now ++ x) 112 10) (drop-cons buffer 112 0 (omega arith))
    ∙ set_at now (get_or buffer 112 0) (drop 113 buffer) 10 112 l
    ∙ ap (λ x. x ++ (10 ∷ drop 113 buffer)) e

-- ---- by the number of decimals

pub these_decimals : {d : ℕ} → d ≤ most_decimals → Decimals (pos d)
these_decimals {d} h = record { from_0 = nonneg d; to_most = pos_≤ℤ h }

pub is_decimals_lem : {z : ℤ} → Decimals z → is_decimals z ≡ true
unfolding is_decimals
is_decimals_lem {z} h =
    rw (is_true (le_z (pos 0) z) (yes_le_z h.from_0), is_true (le_z z (pos most_decimals)) (yes_le_z h.to_most))

pub decimals_told : (z : ℤ) → is_decimals z ≡ true → Decimals z
unfolding is_decimals
decimals_told z e =
    let t = and_yes (le_z (pos 0) z) (le_z z (pos most_decimals)) (subst T (sym e) tt) in
    record { from_0 = le_z_yes t.0; to_most = le_z_yes t.1 }

pub other_told : (z : ℤ) → is_decimals z ≡ false → ¬ Decimals z
other_told z e d = subst T (sym (is_decimals_lem d) ∙ e) tt

pub not_decimals : (z : ℤ) → ¬ Decimals z → is_decimals z ≡ false
not_decimals z h = go (is_decimals z) refl
  where
    go : (b : Bool) → is_decimals z ≡ b → is_decimals z ≡ false
    go false e = e
    go true e = absurd (h (decimals_told z e))

pub decimals_small : (z : ℤ) → Decimals z → nat_abs z ≤ most_decimals
decimals_small (pos n) h = ≤ℤ_pos h.to_most
decimals_small (negsuc n) h = absurd h.from_0.le

-- ---- by the number of decimals and the buffer's length

module _ (z : ℤ) (f : SFits w64 z) (v : Verdict) (buffer : List ℕ) where
  pub other_decimals : (r : Written) (e : ReportError) → IsErrAnd r (λ i. i ≡ e) → e ≡ OtherDecimals
      → is_decimals (read z) ≡ false → Reports z v buffer buffer r
  unfolding after_report after_answer reported
  other_decimals (Ok x) e h i o = absurd h
  other_decimals (Err d) e h i o =
      let o = sym (ap is_decimals (to_z-of_z f)) ∙ o in
      record { buffer = rw (o, reported); answer = rw (o, reported) (ap Err (h ∙ i)) }

  module _ (d : ℕ) (few : d ≤ most_decimals) (e : pos d ≡ read z) where
    is_d : pos d ≡ z
    is_d = e ∙ to_z-of_z f

    told : is_decimals z ≡ true
    told = subst (λ z. is_decimals z ≡ true) is_d (is_decimals_lem (these_decimals few))

    pub too_short : length buffer < report_bytes → Reports z v buffer buffer (Err ShortBuffer)
    unfolding after_report after_answer reported
    too_short h =
        let s = lt-ltb (length buffer) report_bytes h in
        record { buffer = rw (told, s, reported); answer = rw (told, s, reported) }

    pub written : (columns : List ℕ) {after : List ℕ} → report_bytes ≤ length buffer
        → columns ++ (10 ∷ []) ≡ report_line d v → after ≡ columns ++ (10 ∷ drop report_bytes buffer)
        → Reports z v buffer after (Ok tt)
    unfolding after_report after_answer reported
    written columns h i a =
        let s = le-ltb (length buffer) report_bytes h in
        let line =
        a ∙ sym (append_assoc columns (10 ∷ []) (drop report_bytes buffer))
        ∙ ap (λ x. x ++ drop report_bytes buffer) (i ∙ ap (λ n. report_line (nat_abs n) v) is_d) in
        record { buffer = rw (told, s, reported) line; answer = rw (told, s, reported) }
