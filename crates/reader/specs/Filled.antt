-- Tables that have room for a job, and tables that are filled from a file.
use Rattle.std.specs.Prelude.{◌≡◌, List, ℕ, suc, ◌≤◌, length}
use Rattle.laws.specs.Tables.{overwrite, recell}
use Rattle.format.specs.Job.{Head, price_on, place_of}
use Rattle.format.specs.File.{decode}
use Rattle.format.specs.Tables.{ReaderTables, store_codes, Long}

-- Each table is long enough for the largest job, so for every job whose numbers are at most the largest.
pub record Room (h : Head) (l : ReaderTables) : Type 0 where
  pub tables : Long h l.job
  pub tally_offer : h.tallies ≤ length l.tally_offer

-- The tables where each is filled from the file, for the numbers that its header says.
pub record Filled (f : List ℕ) (h : Head) (l l' : ReaderTables) : Type 0 where
  pub price : l'.job.offers.price ≡ recell (suc h.lists) h.offers (price_on (decode f).offer (decode f).list_price) l.job.offers.price
  pub owner : l'.job.offers.owner ≡ overwrite h.offers (λ i. ((decode f).offer i).owner) l.job.offers.owner
  pub code : l'.job.offers.code ≡ store_codes h.offers (λ i. ((decode f).offer i).code) l.job.offers.code
  pub issuer : l'.job.offers.issuer ≡ overwrite h.offers (λ i. ((decode f).offer i).issuer) l.job.offers.issuer
  pub grocer_owner : l'.job.grocer_owner ≡ overwrite h.grocers (decode f).grocer_owner l.job.grocer_owner
  pub tally_grocer : l'.job.tallies.grocer ≡ overwrite h.tallies (λ i. ((decode f).tally i).grocer) l.job.tallies.grocer
  pub tally_box : l'.job.tallies.box ≡ overwrite h.tallies (λ i. ((decode f).tally i).box) l.job.tallies.box
  pub tally_code : l'.job.tallies.code ≡ store_codes h.tallies (λ i. ((decode f).tally i).code) l.job.tallies.code
  pub tally_count : l'.job.tallies.count ≡ overwrite h.tallies (λ i. ((decode f).tally i).count) l.job.tallies.count
  pub tally_issuer : l'.job.tallies.issuer ≡ overwrite h.tallies (λ i. ((decode f).tally i).issuer) l.job.tallies.issuer
  pub tally_bag : l'.job.tallies.bag ≡ overwrite h.tallies (λ i. ((decode f).tally i).bag) l.job.tallies.bag
  pub tally_revision : l'.job.tallies.revision ≡ overwrite h.tallies (λ i. ((decode f).tally i).revision) l.job.tallies.revision
  pub tally_offer : l'.tally_offer ≡ overwrite h.tallies (place_of (decode f)) l.tally_offer
