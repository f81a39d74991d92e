-- What comes of the listing of an image.
use Rattle.std.proofs.Common.{◌≡◌, ℕ, List, Option, Some, length, ◌≤◌, refl, sym, ap, ◌∙◌, subst, arith}
use Rattle.goat_io.specs.Files.{Files, file_of}
use Rattle.goat_io.proofs.Laws.{file_put}
use Rattle.psid.proofs.Laws.{read_is_writable}
use Rattle.asm6502.specs.Assembly.{assembled_bytes}
use Rattle.asm_text.specs.Lines.{IsListing}
use Rattle.asm_text.specs.Laying.{listing_at}
use Rattle.asm_text.specs.Printing.{listing_of}
use Rattle.asm_text.specs.Laws.{ReadsBack}
use Rattle.asm_text.proofs.Laws.{listings_read_back, listing_short, one_listing}
use Rattle.command_line.specs.Words.{Asm}
use Rattle.command_line.proofs.Laws.{one_job}
use Rattle.jobs.specs.Stages.{IsThere, Fits, CanBeAssembled, HoldsListing, AllPass, listing_limit}
use Rattle.jobs.specs.Jobs.{stages, Done}
use Rattle.jobs.specs.Outcome as outcome
use Rattle.jobs.specs.Outcome.{Outcome, files_after}
use Rattle.jobs.specs.Due as due
use Rattle.jobs.specs.Due.{IsDue}
use Rattle.jobs.specs.Packed.{raw_file}
use Rattle.jobs.specs.Answers.{AssemblesListing}
use Rattle.jobs.specs.MetPremises.{ListingsAreAssembled}
use Rattle.jobs.specs.Laws.{ListingsGoBack}
use Rattle.jobs.proofs.Passes.{met_passes, one_file, one_psid_held}
use Rattle.jobs.proofs.Due.{not_zero}

module _ (words : List (List ℕ)) (files : Files) (origin : ℕ) (image output : List ℕ)
    (asked : AssemblesListing words files origin image output) where
  abbrev text : List ℕ
  text = listing_of origin image

  back : ReadsBack origin image
  back = listings_read_back origin image asked.place asked.fits asked.bytes

  held : HoldsListing files asked.input origin image
  held = record {
    text = text;
    found = asked.found;
    script = back.script;
    listing = back.listing;
    sound = back.sound;
    image_is = sym back.bytes;
  }

  fits : length text ≤ listing_limit
  fits = omega (arith, asked.fits, listing_short origin image)

  pub pass : AllPass files (stages (Asm asked.input output))
  pass = (
    met_passes files (IsThere asked.input) (text, asked.found),
    (
      met_passes files (Fits asked.input listing_limit) (text, asked.found, fits),
      (met_passes files (CanBeAssembled asked.input) (origin, image, held), tt),
    ),
  )

  pub listing_is_due : IsDue words files 0 (Some output)
  listing_is_due = due.done (Asm asked.input output) asked.form pass refl refl

  -- what is written where it is done
  written : {lines : List (List ℕ)} {write : Option (List ℕ × List ℕ)} →
      Done (Asm asked.input output) files lines write → write ≡ Some (output, raw_file origin image)
  written (file, (o, i, is, raw), wrote) =
      let texts = one_file files asked.input is.text text is.found asked.found in
      let same = one_listing text o origin is.script back.script
      (subst (λ t. IsListing t o is.script) texts is.listing) back.listing in
      let bytes : i ≡ image =
      is.image_is ∙ ap (λ s. assembled_bytes 0 o (listing_at o s)) same.scripts
      ∙ ap (λ n. assembled_bytes 0 n (listing_at n back.script)) same.origins ∙ back.bytes in
      wrote.write_is
      ∙ ap (λ f. Some (output, f)) (raw ∙ ap (λ n. raw_file n i) same.origins ∙ ap (raw_file origin) bytes)

  pub writes_image : {lines : List (List ℕ)} {write : Option (List ℕ × List ℕ)} →
      Outcome words files 0 lines write → write ≡ Some (output, raw_file origin image)
  writes_image (outcome.usage none zero l w) = absurd (omega (arith, zero))
  writes_image {lines} (outcome.ended job form first w) = absurd (not_zero files (stages job) lines first)
  writes_image {lines} {write} (outcome.done job form all did zero) =
      written (subst (λ j. Done j files lines write) (one_job words job (Asm asked.input output) form asked.form) did)

pub listings_are_assembled : ListingsAreAssembled
listings_are_assembled words files input output origin image form found place bytes fits =
    let asked : AssemblesListing words files origin image output =
    record { input = input; form = form; found = found; place = place; bytes = bytes; fits = fits } in
    (asked, pass words files origin image output asked)

-- what was listed is assembled again
pub listings_go_back : ListingsGoBack
listings_go_back words files input listing output lines write psid held place bytes (file, (other, other_held, is), wrote) form =
    let same = one_psid_held files input other psid other_held held in
    let text : file ≡ listing_of psid.load psid.image = is ∙ ap (λ p. listing_of p.load p.image) same in
    let after = ap (files_after files) wrote.write_is in
    record {
      input = listing;
      form = form;
      found = ap (λ f. file_of f listing) after ∙ file_put files listing file ∙ ap Some text;
      place = place;
      bytes = bytes;
      fits = (read_is_writable held.bytes psid held.reads).fits;
    }
