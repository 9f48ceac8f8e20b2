use Rattle.ag_pool.proofs.Rooms.{stripe-room}
use Rattle.ag_pool.proofs.Values.{room}
use Rattle.ag_pool.proofs.laws.room.Goals as goal

pub returns-clause-page : goal.returns-clause-page
returns-clause-page c pages page low high at log records f proper fitting data_page below rise reach is above start =
    room pages page low high at log records f proper data_page below rise reach is above start fitting

pub returns-clause-stripe : goal.returns-clause-stripe
returns-clause-stripe c x page high log records v proper fitting rise reach is all = stripe-room x high log records v proper rise reach is all page fitting
