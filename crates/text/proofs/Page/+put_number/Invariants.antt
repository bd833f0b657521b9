-- `text::Page::put_number`: it calls itself on a hundredth of the number, which is the measure.
use Rattle.text.proofs.Page.+put_number.Given as goal

abbrev pub decreases-put_number : goal.decreases-put_number
decreases-put_number g l = l.n
